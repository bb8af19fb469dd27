-- K6, `uint(4,1)* & uint(4,2)`: what lets `*` continue or exit.
-- Assumes nothing.
use Prim.Native.Nat.{ℕ, zero, suc, ◌+◌, ◌*◌, ◌≤◌}
use mathlib.Core.Path.{◌≡◌, refl, sym, ap, ap₂, subst, ◌∙◌}
use mathlib.Core.Logic.{◌⊎◌, inl, inr}
use mathlib.Core.Bool.{Bool, true, false, cond, ◌&&◌, false≢true}
use mathlib.Core.List.Memᴰ
use mathlib.Core.List.{List, [], ◌∷◌, Memᴰ}
use mathlib.Core.Option.{Option, none, some}
use native.Mathlib.Omega.{arith}
use borrow.Author.Tests.{eqb-true, leb-true}
use lib.Dec.{eqb, leb}
use lib.ListN.{length, get_or}
use Rattle.basis.specs.Bits.{Bits, bits_of, append_digits, same}
use Rattle.basis.specs.Lookahead.{lookahead, join}
use Rattle.basis.proofs.Strings.{same_true}
use Rattle.basis.proofs.Booleans.{which, both_true, same_test}
use Rattle.theory.specs.Grammar.{alternative, concatenation, repetition, switch, use_of, field, eod, Grammar}
use Rattle.theory.specs.Derivation.{construct, members}
use Rattle.theory.specs.Lookahead.{First, Follow, Continues, Conflict}
use Rattle.theory.specs.Machine.{Tests}
use Rattle.theory.proofs.Sheet.Samples.{one_of}
use Rattle.theory.specs.Weight.{weigh, sum}
use Rattle.theory.proofs.Inversion.{First-of, FirstBy, first_by, Keeps, follow_least}
use Rattle.theory.proofs.Sheet.Sets.{Exactly, only_one, decides, apart, apart_true}
use Rattle.theory.proofs.Sheet.Ones.{one, two, continuing, continues_ones}
use Rattle.run_matcher.specs.Windows.{Tells}
use Rattle.tree_meaning.specs.Grammar.{Context, first_context, Values, TreeNode, opening, tree_grammar}
use Rattle.tree_meaning.proofs.Sheet as trees
use Rattle.tree_meaning.proofs.Unreached.{one_rule_reached}
use Rattle.tree_meaning.proofs.Valued.{AllValued, all_valued}
use Rattle.sheet.specs.Sheet.{K6}
use Rattle.sheet.proofs.Computing.{grammar}
use Rattle.sheet.proofs.Texts.{formed_K6}
use Rattle.sheet.proofs.Stages.{bounded_K6}
use Rattle.sheet.proofs.Grammars.{each_node, branches_in, Quiet, quiet, filled_as, field_first}
use Rattle.sheet.proofs.Nodes.{Passing}

-- ---- a field of one string

-- all strings of n bits pass the test
unfoldable every : ℕ → (Bits → Bool) → Bool
every zero test = test []
every (suc n) test = every n (λ s. test (true ∷ s)) && every n (λ s. test (false ∷ s))

every_one : (n : ℕ) (test : Bits → Bool) → every n test ≡ true → (bits : Bits) → length bits ≡ n → test bits ≡ true
unfolding every
every_one zero test e [] l = e
every_one zero test e (b ∷ bits) l = absurd (omega arith)
every_one (suc n) test e [] l = absurd (omega arith)
every_one (suc n) test e (true ∷ bits) l =
    every_one n (λ s. test (true ∷ s)) (both_true (every n (λ s. test (true ∷ s))) (every n (λ s. test (false ∷ s))) e).0 bits (omega arith)
every_one (suc n) test e (false ∷ bits) l =
    every_one n (λ s. test (false ∷ s)) (both_true (every n (λ s. test (true ∷ s))) (every n (λ s. test (false ∷ s))) e).1 bits (omega arith)

one_string : (h : Grammar Context Values) (i w : ℕ) (it : Bits) (admits : Context → Values → Bits → Bool) (static : Bits → Bool) (binds : Context → Values → Bits → Values)
    → h.node i ≡ field (λ bits. w) admits static binds → length it ≡ w → static it ≡ true → every w (λ s. cond (static s) (same s it) true) ≡ true
    → Exactly (First-of h i) (lookahead it ∷ [])
one_string h i w it admits static binds e l t a x = (there, λ m. subst (λ (n : TreeNode). First h (construct i n) x) (sym e) (First.of_field it l t (Memᴰ.eq_of_singleton m)))
  where
    it_is : (bits : Bits) → length bits ≡ w → static bits ≡ true → bits ≡ it
    it_is bits k s = same_true bits it (subst (λ (b : Bool). cond b (same bits it) true ≡ true) s (every_one w (λ s. cond (static s) (same s it) true) a bits k))

    there : First-of h i x → Memᴰ x (lookahead it ∷ [])
    there f = let (bits, k, s, q) = subst (λ (n : TreeNode). FirstBy h (construct i n) x) e (first_by h f) in Memᴰ.head (q ∙ ap lookahead (it_is bits k s))

-- ---- FIRST

abbrev g : Grammar Context Values
g = tree_grammar trees.K6

first_one : Exactly (First-of g 2) (one ∷ [])
unfolding grammar trees.K6 bits_of append_digits every same
first_one = one_string g 2 4 one _ _ _ refl refl refl refl

first_two : Exactly (First-of g 3) (two ∷ [])
unfolding grammar trees.K6 bits_of append_digits every same
first_two = one_string g 3 4 two _ _ _ refl refl refl refl

-- ---- FOLLOW

abbrev at_end : List Bits
at_end = [] ∷ []

-- the strings claimed for a number, where some are
abbrev Within : Option (List Bits) → Bits → Type 0
Within none x = Unit {0}
Within (some ys) x = Memᴰ x ys

abbrev Claimed : ℕ → Bits → Type 0
Claimed i = Within (cond (eqb i opening) (some at_end) (get_or (some at_end ∷ some (two ∷ []) ∷ []) i none))

two_claimed : (x y : Bits) → First g (members (3 ∷ [])) x → Memᴰ y at_end → Memᴰ (join x y) (two ∷ [])
unfolding bits_of
two_claimed x y f n =
    let (u, z, h, hs, e) = first_by g f in
    Memᴰ.head
    (ap₂ join (e ∙ ap₂ join (Memᴰ.eq_of_singleton ((first_two u).0 h)) (first_by g hs)) (Memᴰ.eq_of_singleton n))

keeps : (i : ℕ) → Keeps g Claimed i (g.node i)
unfolding grammar trees.K6
keeps =
    each_node trees.K6 4 refl (Keeps g Claimed) (λ x h. h) (λ k h e b m. absurd (Memᴰ.not-nil m))
    ((((tt, (two_claimed, (λ x y f h. tt, tt))), λ k x y f h. tt), tt), tt)

two_follows : Follow g 1 two
unfolding grammar trees.K6 bits_of
two_follows =
    Follow.of_member {i = 0} [] (3 ∷ []) refl (First.more_members ((first_two two).1 (Memᴰ.head refl)) First.no_members refl)
    (Follow.of_rule {i = opening} refl (Follow.of_start refl)) refl

follow_star : Exactly (Follow g 1) (two ∷ [])
unfolding grammar trees.K6
follow_star x = (λ f. follow_least g Claimed (Memᴰ.head refl) keeps f, only_one (Follow g 1) two_follows x)

continues_star : Exactly (Continues g 1 2) continuing
continues_star = continues_ones g first_one follow_star

-- ---- it passes

-- neither continues nor exits is the other
star_apart : (x : Bits) → Continues g 1 2 x → Follow g 1 x → ⊥
unfolding apart bits_of
star_apart x c f = apart_true continuing (two ∷ []) refl x ((continues_star x).0 c) ((follow_star x).0 f)

-- the body of a repetition
abbrev body_in : TreeNode → ℕ
body_in (alternative is) = 0
body_in (concatenation is) = 0
body_in (repetition counts static fixed b) = b
body_in (switch chosen optional is) = 0
body_in (use_of enters opens closes b) = 0
body_in (field w admits static binds) = 0
body_in eod = 0

star_quiet : (x : Bits) → Conflict g 1 x → ⊥
unfolding grammar trees.K6
star_quiet x (Conflict.of_branches {a = a} e m n d p p') = Memᴰ.not-nil (subst (λ (l : List ℕ). Memᴰ a l) (sym (ap branches_in e)) m)
star_quiet x (Conflict.of_passes {b = b} e c s) = star_apart x (subst (λ (k : ℕ). Continues g 1 k x) (sym (ap body_in e)) c) s

no_conflict : (i : ℕ) (x : Bits) → Conflict g i x → ⊥
unfolding grammar trees.K6
no_conflict i x c =
    elim (each_node trees.K6 4 refl (λ k n. Quiet n ⊎ (k ≡ 1)) (inl tt) (λ k h e. inl refl) ((((tt, inl tt), inr refl), inl tt), inl tt) i)
    [ inl q ↦ quiet g i x q c | inr e ↦ star_quiet x (subst (λ (k : ℕ). Conflict g k x) e c) ]

weigh_starred : (a b c d e : ℕ) → a ≡ 1 + b → b ≡ 1 + (c + (e + 0)) → c ≡ 2 * d + 1 → d ≡ 1 → e ≡ 1 → a ≡ 6
weigh_starred a b c d e p q r s t = omega arith

pub passing_K6 : Passing K6 trees.K6 6
unfolding grammar trees.K6 weigh sum AllValued
passing_K6 =
    record {
      formed = formed_K6;
      bounded = bounded_K6;
      no_empty_body = filled_as trees.K6 4 refl ((((tt, tt), field_first g 2 3), tt), tt);
      no_conflict = no_conflict;
      weighs = λ w e. weigh_starred (w first_context opening) (w first_context 0) (w first_context 1) (w first_context 2) (w first_context 3) (e first_context opening) (e first_context 0) (e first_context 1) (e first_context 2) (e first_context 3);
      light = omega arith;
      reached = one_rule_reached _;
      valued = all_valued trees.K6 (λ e. e, (λ e. e, (λ e. false≢true (sym (e.1 (bits_of 4 1) refl)), (λ e. false≢true (sym (e.1 (bits_of 4 2) refl)), tt))));
    }

-- ---- what a run looks up, if the table's sets are the grammar's

-- the same tests, those of `*` in place
abbrev pub known : Tests → Tests
known tests =
    record {
      predicts = tests.predicts;
      continues = λ i x. cond (eqb i 1) (cond (leb (length x) 8) (one_of continuing x) (tests.continues i x)) (tests.continues i x);
      exits = λ i x. cond (eqb i 1) (cond (leb (length x) 8) (one_of (two ∷ []) x) (tests.exits i x)) (tests.exits i x);
    }

replaced : (a : ℕ → Bits → Bool) (ys : List Bits) → ((x : Bits) → length x ≤ 8 → a 1 x ≡ one_of ys x)
    → (i : ℕ) (x : Bits) → a i x ≡ cond (eqb i 1) (cond (leb (length x) 8) (one_of ys x) (a i x)) (a i x)
replaced a ys h i x =
    elim (which (eqb i 1)) [
      | inl e ↦ elim (which (leb (length x) 8)) [
        | inl l ↦ rw (e, l) (subst (λ (k : ℕ). a k x ≡ one_of ys x) (sym (eqb-true i 1 e)) (h x (leb-true (length x) 8 l)))
        | inr l ↦ rw (e, l)
      ]
      | inr e ↦ rw e
    ]

pub same_tests : (tests : Tests) → Tells g tests → tests ≡ known tests
unfolding grammar trees.K6
same_tests tests h =
    let c = replaced tests.continues continuing (λ x l. same_test (tests.continues 1 x) (one_of continuing x) (h.go {i = 1} {b = 2} refl x l) (decides continuing continues_star x)) in
    let e = replaced tests.exits (two ∷ []) (λ x l. same_test (tests.exits 1 x) (one_of (two ∷ []) x) (h.stop {i = 1} {b = 2} refl x l) (decides (two ∷ []) follow_star x)) in
    λ t. record { predicts = tests.predicts; continues = λ i x. c i x t; exits = λ i x. e i x t }
