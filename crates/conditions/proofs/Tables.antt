-- The table of an admitted text: what its words hold derives what the text's tree does, and the run on it takes the tree's steps.
-- Assumes nothing.
use Prim.Native.Nat.{ℕ, ◌≤◌}
use mathlib.Core.Path.{◌≡◌, refl, sym, subst, ◌∙◌}
use mathlib.Core.Logic.{◌↔◌}
use mathlib.Core.List.{List}
use native.Mathlib.Omega.{arith}
use lib.ListN.{length, drop}
use Rattle.basis.specs.Limits.{table_words}
use Rattle.basis.specs.Bits.{Bits}
use Rattle.theory.specs.Grammar.{Grammar}
use Rattle.theory.specs.Derivation.{Tree, Derivation}
use Rattle.theory.specs.Scope.{localised}
use Rattle.theory.specs.Weight.{Weighs}
use Rattle.table_layout.specs.Places.{table_of, weight_of}
use Rattle.table_judge.specs.Sound.{Sound, SoundTable}
use Rattle.table_layout.specs.Held.{Context, first_context, Values, held, opening}
use Rattle.table_scope.specs.Scope.{store, scope_of, fresh}
use Rattle.table_weights.proofs.Heights.{weight_at}
use Rattle.run_actions.specs.Stored.{tests_of}
use Rattle.table_hypotheses.proofs.HeldLocal.{held_local}
use Rattle.table_hypotheses.proofs.Reliability.{weighed}
use Rattle.table_hypotheses.proofs.Trust.{trusted}
use Rattle.text_admission.specs.Admitted.{Bounded, Headed, RulesPass, refused_early, by_rules}
use Rattle.text_admission.specs.Admitted.{Answers}
use Rattle.text_admission.specs.declared.Admission.{Admission}
use Rattle.tree.specs.Tree.{Rules}
use Rattle.tree_meaning.specs.Grammar.{tree_grammar}
use Rattle.tree_meaning.specs.Local.{local_grammar}
use Rattle.tree_agreement.proofs.SameSets.{SameSets}
use Rattle.tree_agreement.proofs.Texts.{stored_grammar, text_derivations, local_derivations}
use Rattle.tree_agreement.proofs.Telling.{same_tells, text_steps}
use Rattle.run_matcher.specs.Conditions.{Grant, grammar_of, BySteps}
use Rattle.run_matcher.proofs.Telling.{tells}
use Rattle.admission.specs.Texts.{TreeOf}
use Rattle.admission.specs.Promised.{Promised}
use Rattle.admission.proofs.Rows.{one_tree}
use Rattle.admission.proofs.Stages.{fitting, treed, from_stored}
use Rattle.admission.proofs.Holding.{meant, words_hold, its_tree, spelled, no_5, no_6, no_8, word_sets}
use Rattle.conditions.specs.Conditions.{TextTable, Tables, HasTable}

-- the grammar of a table's words, with variables local to a rule
abbrev local_of : List ℕ → Grammar Context Values → Grammar Context Values
local_of ws g = localised store (scope_of ws) fresh g

module _ (text old new : List ℕ) (weight base : ℕ) (h : Headed text old base) (p : RulesPass (drop base text) weight old new) where
  abbrev xs : List ℕ
  xs = drop base text

  abbrev passed : Bounded xs p.st
  passed = p.passes.passed

  -- the text's tree
  abbrev pub tree_read : Rules
  tree_read = its_tree xs (fitting text old base h) p.st passed

  abbrev pub tree_found : TreeOf text
  tree_found = treed text old base h p.st passed.passed.passed.passed.passed

  table_holds : held (table_of new) ≡ meant xs p.st
  table_holds = sym (held_local p.table.same) ∙ words_hold xs p.st passed (fitting text old base h)

  -- what holds of the grammar of what is stored holds of what the table holds
  to_table : (P : Grammar Context Values → Type 0) → P (stored_grammar xs tree_read) → P (held (table_of new))
  to_table P a = subst P (sym table_holds) (from_stored xs (fitting text old base h) p.st passed.passed.passed.passed.passed (λ z. P (meant xs z)) a)

  table_sets : SameSets (held (table_of new)) (tree_grammar tree_read)
  table_sets = subst (λ (g : Grammar Context Values). SameSets g (tree_grammar tree_read)) (held_local p.table.same) (word_sets xs (fitting text old base h) p.st passed)

  pub table_derives : (s : Bits) (d : Tree) (v : Values) → Derivation (held (table_of new)) s d v ↔ Derivation (tree_grammar tree_read) s d v
  table_derives =
      to_table (λ g. (s : Bits) (d : Tree) (v : Values) → Derivation g s d v ↔ Derivation (tree_grammar tree_read) s d v)
      (text_derivations (spelled xs (fitting text old base h) p.st passed) (no_5 xs (fitting text old base h) p.st passed) (no_6 xs (fitting text old base h) p.st passed) (no_8 xs (fitting text old base h) p.st passed))

  pub local_derives : (s : Bits) (d : Tree) (v : Values) → Derivation (grammar_of new) s d v ↔ Derivation (local_grammar tree_read) s d v
  local_derives =
      to_table (λ g. (s : Bits) (d : Tree) (v : Values) → Derivation (local_of (table_of new) g) s d v ↔ Derivation (local_grammar tree_read) s d v)
      (local_derivations (spelled xs (fitting text old base h) p.st passed) (no_5 xs (fitting text old base h) p.st passed) (no_6 xs (fitting text old base h) p.st passed) (no_8 xs (fitting text old base h) p.st passed)
      (scope_of (table_of new)) (λ i. refl))

  pub table_steps : (ws fs rs : List ℕ) (gs : List Grant) → BySteps (held (table_of new)) ws fs rs gs ↔ BySteps (tree_grammar tree_read) ws fs rs gs
  table_steps =
      to_table (λ g. (ws fs rs : List ℕ) (gs : List Grant) → BySteps g ws fs rs gs ↔ BySteps (tree_grammar tree_read) ws fs rs gs)
      (text_steps (spelled xs (fitting text old base h) p.st passed) (no_5 xs (fitting text old base h) p.st passed) (no_6 xs (fitting text old base h) p.st passed) (no_8 xs (fitting text old base h) p.st passed))

  weights : (w : Context → ℕ → ℕ) → Weighs (tree_grammar tree_read) w → w first_context opening ≡ weight
  weights w e = p.passes.weighs w (((word_sets xs (fitting text old base h) p.st passed).weighs_iff w).1 e)

  weigh_table : Weighs (held (table_of new)) (λ c i. weight_at (table_of new) i)
  weigh_table = weighed p.table.sound

  weigh_tree : Weighs (tree_grammar tree_read) (λ c i. weight_at (table_of new) i)
  weigh_tree = (table_sets.weighs_iff (λ c i. weight_at (table_of new) i)).0 weigh_table

  table_is : TextTable text new weight
  table_is =
      record {
        tree = tree_found;
        sound = ((let z : table_words ≤ length new = omega (arith, p.table.length_kept, h.table_fits) in z), p.table.sound);
        derives = table_derives;
        weight_stored = sym (p.table.sound.weight (λ c i. weight_at (table_of new) i) weigh_table) ∙ weights (λ c i. weight_at (table_of new) i) weigh_tree;
        weights = weights;
        weighable = (λ c i. weight_at (table_of new) i, weigh_tree);
        windows = (tests_of (table_of new), (same_tells table_sets (tests_of (table_of new))).0 (tells (trusted (table_of new) p.table.sound).hypotheses));
      }

-- ---- of any text that was admitted

-- what an admitted text's rules pass
record Passing (text old new : List ℕ) (weight : ℕ) : Type 0 where
  base : ℕ
  headed : Headed text old base
  rules : RulesPass (drop base text) weight old new

passing : (text old new : List ℕ) (weight : ℕ) → Answers text old new (Admission.Admitted weight) → Passing text old new weight
passing text old new weight (refused_early number place e r k) = let z : ◌≡◌ {A = ℕ} 0 1 = cc in absurd (omega arith)
passing text old new weight (by_rules base h p) = record { base = base; headed = h; rules = p }

module _ (text old new : List ℕ) (weight : ℕ) (a : Promised text old new (Admission.Admitted weight)) where
  by_passing : Passing text old new weight
  by_passing = passing text old new weight a.answers

  pub text_table : TextTable text new weight
  text_table = let b = by_passing in table_is text old new weight b.base b.headed b.rules

  -- of whichever tree the text has
  module _ (x : TreeOf text) where
    to_tree : (P : Rules → Type 0) → P (tree_read text old new weight by_passing.base by_passing.headed by_passing.rules) → P x.tree
    to_tree P = subst P (one_tree (tree_found text old new weight by_passing.base by_passing.headed by_passing.rules) x).1

    pub same_local : (s : Bits) (d : Tree) (v : Values) → Derivation (grammar_of new) s d v ↔ Derivation (local_grammar x.tree) s d v
    same_local =
        to_tree (λ t. (s : Bits) (d : Tree) (v : Values) → Derivation (grammar_of new) s d v ↔ Derivation (local_grammar t) s d v)
        (local_derives text old new weight by_passing.base by_passing.headed by_passing.rules)

    pub same_steps : (ws fs rs : List ℕ) (gs : List Grant) → BySteps (held (table_of new)) ws fs rs gs ↔ BySteps (tree_grammar x.tree) ws fs rs gs
    same_steps ws fs rs gs =
        to_tree (λ t. BySteps (held (table_of new)) ws fs rs gs ↔ BySteps (tree_grammar t) ws fs rs gs)
        (table_steps text old new weight by_passing.base by_passing.headed by_passing.rules ws fs rs gs)

-- ---- of a copy of its table

module _ (text table : List ℕ) (weight : ℕ) (h : HasTable text table weight) where
  left_table : TextTable text h.left weight
  left_table = text_table text h.old h.left weight h.promised

  pub copy_sound : SoundTable table
  copy_sound = (h.copy.0, subst Sound (sym h.copy.1) left_table.sound.1)

  pub copy_weight : weight_of (table_of table) ≡ weight
  copy_weight = subst (λ (ws : List ℕ). weight_of ws ≡ weight) (sym h.copy.1) left_table.weight_stored

  module _ (x : TreeOf text) where
    pub copy_local : (s : Bits) (d : Tree) (v : Values) → Derivation (grammar_of table) s d v ↔ Derivation (local_grammar x.tree) s d v
    copy_local =
        subst (λ (ws : List ℕ). (s : Bits) (d : Tree) (v : Values) → Derivation (local_of ws (held ws)) s d v ↔ Derivation (local_grammar x.tree) s d v) (sym h.copy.1)
        (same_local text h.old h.left weight h.promised x)

    pub copy_steps : (fs rs : List ℕ) (gs : List Grant) → BySteps (held (table_of table)) table fs rs gs ↔ BySteps (tree_grammar x.tree) table fs rs gs
    copy_steps fs rs gs =
        subst (λ (ws : List ℕ). BySteps (held ws) table fs rs gs ↔ BySteps (tree_grammar x.tree) table fs rs gs) (sym h.copy.1)
        (same_steps text h.old h.left weight h.promised x table fs rs gs)

pub tables : Tables
tables = text_table
