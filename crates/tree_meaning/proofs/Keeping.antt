-- Where 6 is not given, every field of a text's grammar leaves the variables' values within their widths, if they were so before it: what a run or a derivation
-- meets is within them from the start on.
-- Assumes nothing.
use Prim.Native.Nat.{ℕ, ◌+◌, ◌≤◌, ◌<◌}
use mathlib.Core.Path.{◌≡◌, subst, sym}
use mathlib.Core.Logic.{◌⊎◌, inl, inr, ⊎_elim}
use mathlib.Core.List.{List, [], ◌∷◌}
use mathlib.Core.Option.{none}
use native.Mathlib.Omega.{arith}
use lib.IntN.{ℤ, pos, nat_abs}
use lib.ListN.{length, set, replicate}
use lib.Seq.{get_or-set_other}
use Rattle.basis.specs.Bits.{Bits}
use Rattle.basis.specs.Patterns.{pattern_value, greatest_size}
use Rattle.theory.specs.Grammar.{alternative, concatenation as sequence, repetition, switch as choice-by, use_of, field as bits_of, eod as frame_end}
use Rattle.tree.specs.Lexemes.{Name}
use Rattle.tree.specs.Tree.{Rule, Rules}
use Rattle.tree_meaning.specs.Pieces.{Piece, use_of_rule, width, formula, binding, bound_in, rules_of, rule_name, rule_pieces, variables_of}
use Rattle.tree_meaning.specs.Names.{rule_names, refusal_6}
use Rattle.tree_meaning.specs.Grammar.{Context, Values, TreeNode, body_of, variable_of, tree_constructs, tree_grammar}
use Rattle.tree_meaning.proofs.Numbers.{variable_from, variable_under}
use Rattle.tree_meaning.proofs.Passing.{RulesNamed, named}
use Rattle.tree_meaning.proofs.Inside.{Held, RulesHeld}
use Rattle.tree_meaning.proofs.Every.{AllPieces, AllNodes, Follows, AllRules, every_rule}
use Rattle.tree_meaning.proofs.Binding.{Own, all_own, first_held, stays_held}

-- ---- a property of values that fields keep

-- a field that takes as many bits as it is wide keeps it
abbrev pub Keeps : (Values → Type 0) → TreeNode → Type 0
Keeps P (alternative is) = Unit {0}
Keeps P (sequence is) = Unit {0}
Keeps P (repetition counts static fixed body) = Unit {0}
Keeps P (choice-by which optional is) = Unit {0}
Keeps P (use_of enters opens closes body) = Unit {0}
Keeps P (bits_of wide admits static binds) = (c : Context) (v : Values) (bits : Bits) → length bits ≡ wide bits → P v → P (binds c v bits)
Keeps P frame_end = Unit {0}

-- so does the binding of a variable
abbrev pub BindingKeeps : (Values → Type 0) → (variable : List ℕ → ℕ) → Piece → Type 0
BindingKeeps P variable (use_of_rule x) = Unit {0}
BindingKeeps P variable (width most n) = Unit {0}
BindingKeeps P variable (formula f) = Unit {0}
BindingKeeps P variable (binding x signed n placed) = (v : Values) (bits : Bits) → length bits ≡ n.value → P v → P (set v (variable x.letters) (pattern_value signed bits))

-- no other construct changes a value
keeping : (P : Values → Type 0) (body variable : List ℕ → ℕ) → Follows body variable (Keeps P) (BindingKeeps P variable)
keeping P body variable =
    record {
      literals = λ bytes c v bits e k. k;
      ranges = λ low high c v bits e k. k;
      fields = λ d signed n x a b c v bits e k. k;
      binders = λ d signed most n x y placed fits a b keeps c v bits e k. keeps v bits e k;
      rule_uses = λ x a. tt;
      ends = tt;
      switches = λ which optional is. tt;
      repetitions = λ m i a. tt;
      concatenations = λ is. tt;
      alternatives = λ is. tt;
    }

-- ---- a value of another rule's variable

outside : (b : ℕ) (whole : List Piece) (v : Values) (k : ℕ) (a : ℤ) (ps : List Piece) → (k < b) ⊎ (b + length (bound_in whole) ≤ k) → Own whole ps → Held (variable_of b (bound_in whole)) v ps
    → Held (variable_of b (bound_in whole)) (set v k a) ps
unfolding Own Held
outside b whole v k a [] far o h = tt
outside b whole v k a (use_of_rule y ∷ more) far o h = outside b whole v k a more far o h
outside b whole v k a (width most n ∷ more) far o h = outside b whole v k a more far o h
outside b whole v k a (formula f ∷ more) far o h = outside b whole v k a more far o h
outside b whole v k a (binding y signed n placed ∷ more) far o h =
    let i = variable_of b (bound_in whole) y.letters in
    let other : i ≡ k → ⊥ = λ e.
    ⊎_elim {C = ⊥} (λ f. absurd (omega (arith, e, f, variable_from b (bound_in whole) y.letters)))
    (λ f. absurd (omega (arith, e, f, variable_under b (bound_in whole) y o.1))) far
    in (subst (λ (z : ℤ). nat_abs z ≤ greatest_size signed n.value) (sym (get_or-set_other v k i a (pos 0) other)) h.0, outside b whole v k a more far o.2 h.1)

rules_outside : (rules earlier : List Name) (b : ℕ) (v : Values) (k : ℕ) (a : ℤ) (rs : List Rule) → k < b → RulesNamed rules earlier rs → RulesHeld b v rs → RulesHeld b (set v k a) rs
unfolding RulesNamed RulesHeld
rules_outside rules earlier b v k a [] l h i = tt
rules_outside rules earlier b v k a (r ∷ more) l h i = (
  outside b (rule_pieces r) v k a (rule_pieces r) (inl l) (all_own rules (variables_of r) (rule_pieces r) h.1) i.0,
  rules_outside rules (rule_name r ∷ earlier) (b + length (variables_of r)) v k a more (omega arith) h.2 i.1,
)

-- ---- rules

-- P says that the values of these rules' variables are within their widths, and besides Q, which no binding in these rules changes
module _ (P : Values → Type 0) where
  -- a rule's own bindings
  own_bindings : (rules earlier : List Name) (Q : Values → Type 0) (b : ℕ) (r : Rule) (more : List Rule) → ((v : Values) → P v → Q v × RulesHeld b v (r ∷ more))
      → ((v : Values) → Q v → RulesHeld b v (r ∷ more) → P v) → ((v : Values) (k : ℕ) (a : ℤ) → b ≤ k → Q v → Q (set v k a)) → RulesNamed rules earlier more
      → Own (rule_pieces r) (rule_pieces r) → (ps : List Piece) → Own (rule_pieces r) ps → AllPieces (BindingKeeps P (variable_of b (variables_of r))) ps
  unfolding Own AllPieces RulesHeld
  own_bindings rules earlier Q b r more split join stable right own [] o = tt
  own_bindings rules earlier Q b r more split join stable right own (use_of_rule x ∷ ps) o = (tt, own_bindings rules earlier Q b r more split join stable right own ps o)
  own_bindings rules earlier Q b r more split join stable right own (width most n ∷ ps) o = (tt, own_bindings rules earlier Q b r more split join stable right own ps o)
  own_bindings rules earlier Q b r more split join stable right own (formula f ∷ ps) o = (tt, own_bindings rules earlier Q b r more split join stable right own ps o)
  own_bindings rules earlier Q b r more split join stable right own (binding x signed n placed ∷ ps) o = (
    (λ v bits e p.
        let q = split v p in
        let k = variable_of b (variables_of r) x.letters in
        join (set v k (pattern_value signed bits)) (stable v k (pattern_value signed bits) (variable_from b (variables_of r) x.letters) q.0) (
          stays_held b (rule_pieces r) x signed n.value o.0 o.1 bits e v (rule_pieces r) own q.1.0,
          rules_outside rules earlier (b + length (variables_of r)) v k (pattern_value signed bits) more (variable_under b (variables_of r) x o.1) right q.1.1,
        )),
    own_bindings rules earlier Q b r more split join stable right own ps o.2,
  )

  pub all_bindings : (rules earlier : List Name) (Q : Values → Type 0) (b : ℕ) (rs : List Rule) → ((v : Values) → P v → Q v × RulesHeld b v rs) → ((v : Values) → Q v → RulesHeld b v rs → P v)
      → ((v : Values) (k : ℕ) (a : ℤ) → b ≤ k → Q v → Q (set v k a)) → RulesNamed rules earlier rs → AllRules (λ b r. BindingKeeps P (variable_of b (variables_of r))) b rs
  unfolding AllRules RulesNamed RulesHeld
  all_bindings rules earlier Q b [] split join stable h = tt
  all_bindings rules earlier Q b (r ∷ more) split join stable h =
      let own = all_own rules (variables_of r) (rule_pieces r) h.1 in (
        own_bindings rules (rule_name r ∷ earlier) Q b r more split join stable h.2 own (rule_pieces r) own,
        all_bindings rules (rule_name r ∷ earlier) (λ v. Q v × Held (variable_of b (variables_of r)) v (rule_pieces r)) (b + length (variables_of r)) more
            (λ v p. let q = split v p in ((q.0, q.1.0), q.1.1)) (λ v q k. join v q.0 (q.1, k))
            (λ v k a l q. (stable v k a (omega arith) q.0, outside b (rule_pieces r) v k a (rule_pieces r) (inr l) own q.1)) h.2,
      )

-- of a text for which 6 is not given
pub text_keeps : (t : Rules) → refusal_6 t ≡ none → AllNodes (Keeps (λ v. RulesHeld 0 v (rules_of t))) (tree_constructs t)
text_keeps t e =
    let P : Values → Type 0 = λ v. RulesHeld 0 v (rules_of t) in
    every_rule (rules_of t) (Keeps P) (λ b r. BindingKeeps P (variable_of b (variables_of r))) (λ b r. keeping P (body_of 0 (rules_of t)) (variable_of b (variables_of r))) 0 0 (rules_of t)
    (all_bindings P (rule_names t) [] (λ v. Unit {0}) 0 (rules_of t) (λ v p. (tt, p)) (λ v q p. p) (λ v k a l q. tt) (named t e))

-- at first every value is 0: within every width
pub rules_first : (n b : ℕ) (rs : List Rule) → RulesHeld b (replicate n (pos 0)) rs
unfolding RulesHeld
rules_first n b [] = tt
rules_first n b (r ∷ more) = (first_held (variable_of b (variables_of r)) n (rule_pieces r), rules_first n (b + length (variables_of r)) more)

pub text_begins : (t : Rules) → RulesHeld 0 (tree_grammar t).values (rules_of t)
unfolding tree_grammar
text_begins t = rules_first 64 0 (rules_of t)
