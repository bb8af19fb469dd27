-- The body that a rule's name stands for: the node that what is stored gives is the construct that the tree gives.
-- Assumes nothing.
use Prim.Native.Nat.{ℕ, suc, ◌+◌}
use mathlib.Core.Path.{◌≡◌, sym, ap, ◌∙◌}
use mathlib.Core.Logic.{⊎_elim}
use mathlib.Core.Bool.{Bool, true, false, cond, ◌||◌}
use mathlib.Core.List.{List, [], ◌∷◌, map}
use native.Mathlib.Omega.{arith}
use lib.ListN.{length}
use Rattle.basis.proofs.Booleans.{which}
use Rattle.text_tokens.specs.Names.{is_same}
use Rattle.text_store.specs.Words.{first_node}
use Rattle.text_encoding.specs.Lists.{first_of}
use Rattle.text_encoding.specs.Numbers.{rule_of}
use Rattle.tree.specs.Lexemes.{Name, Lexeme, finish}
use Rattle.tree.specs.Tree.{rule, Rules, last_rule, and_rules}
use Rattle.tree.specs.Spelling.{spell_rules}
use Rattle.tree_meaning.specs.Pieces.{rules_of as rules_in, rule_name}
use Rattle.tree_meaning.specs.Counted.{Totals, no_rule, with_rule, rule_constructs}
use Rattle.tree_meaning.specs.Names.{is_among, rule_names}
use Rattle.tree_meaning.specs.Grammar.{body_of}
use Rattle.tree_store.proofs.Standing.{Standing, past, after_tree, SpelledBy, spelled_stand}
use Rattle.tree_store.proofs.Uses.{Here, here}
use Rattle.tree_store.proofs.Rowed.{RulesIn, rule_then, Rowed}
use Rattle.tree_store.proofs.Names.{named_so, named_here}
use Rattle.tree_numbers.proofs.Rules.{first_here, first_later}

body_at : {xs ws : List ℕ} (t : Rules) (n : Totals) (w : List Lexeme) {q : ℕ} → RulesIn ws n (rules_in t) → Standing xs q (spell_rules t w) → (y : Name) → Here xs y → is_among (map rule_name (rules_in t)) y ≡ true
    → first_node ws (first_of (length (rules_in t)) n.rules (named_so xs ws y)) ≡ body_of n.all_constructs (rules_in t) y.letters
unfolding spell_rules rules_in is_among body_of
body_at {xs} {ws} (last_rule (rule x is b end)) n w (rule_then e f g more) s y h among =
    ⊎_elim
    (λ (z : is_same x.letters y.letters ≡ true).
    ap (first_node ws) (first_here 0 n.rules (named_so xs ws y) (named_here ws n.rules e (here s) h ∙ z)) ∙ f ∙ sym (ap (λ (c : Bool). cond c n.all_constructs (n.all_constructs + rule_constructs (rule x is b end))) z))
    (λ (z : is_same x.letters y.letters ≡ false). let u : ◌≡◌ {A = Bool} true false = sym among ∙ ap (λ (c : Bool). c || false) z in let v : ◌≡◌ {A = ℕ} 0 1 = cc in absurd (omega arith))
    (which (is_same x.letters y.letters))
body_at {xs} {ws} (and_rules (rule x is b end) t) n w (rule_then e f g more) s y h among =
    ⊎_elim
    (λ (z : is_same x.letters y.letters ≡ true).
    ap (first_node ws) (first_here (length (rules_in t)) n.rules (named_so xs ws y) (named_here ws n.rules e (here s) h ∙ z))
    ∙ f
    ∙ sym (ap (λ (c : Bool). cond c n.all_constructs (body_of (n.all_constructs + rule_constructs (rule x is b end)) (rules_in t) y.letters)) z))
    (λ (z : is_same x.letters y.letters ≡ false).
    ap (first_node ws) (first_later (length (rules_in t)) n.rules (named_so xs ws y) (named_here ws n.rules e (here s) h ∙ z) ∙ ap (λ (k : ℕ). first_of (length (rules_in t)) k (named_so xs ws y)) (let q : n.rules + 1 ≡ suc n.rules = omega arith in q))
    ∙ body_at t (with_rule n (rule x is b end)) w more (past (after_tree b (past (past s)))) y h (ap (λ (c : Bool). c || is_among (map rule_name (rules_in t)) y) (sym z) ∙ among)
    ∙ sym (ap (λ (c : Bool). cond c n.all_constructs (body_of (n.all_constructs + rule_constructs (rule x is b end)) (rules_in t) y.letters)) z))
    (which (is_same x.letters y.letters))

-- the body of the rule that a name stands for
pub body_number : {xs ns ts ws : List ℕ} {r : ℕ} {t : Rules} → SpelledBy xs t → Rowed t ns ts ws r → (y : Name) → Here xs y → is_among (rule_names t) y ≡ true → first_node ws (rule_of xs ws r y.start) ≡ body_of 0 (rules_in t) y.letters
body_number {xs} {ws = ws} {t = t} h w y g among =
    ap (λ (n : ℕ). first_node ws (first_of n 0 (named_so xs ws y))) w.number ∙ body_at t no_rule (finish h.end ∷ []) w.rules_are (spelled_stand h) y g among
