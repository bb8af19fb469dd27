-- A set that a construct's words give is what the rule of its node makes of the family's sets.
-- Assumes nothing.
use Prim.Native.Nat.{ℕ, zero, suc, ◌+◌, ◌*◌, ◌-◌, ◌<◌}
use mathlib.Core.Path.{◌≡◌, refl, sym, ap, ◌∙◌, subst}
use mathlib.Core.Bool.{true, false}
use mathlib.Core.List.Memᴰ
use mathlib.Core.List.{List, []}
use lib.ListN.{length, take, drop, length-drop, drop_of_length-le}
use lib.Seq.{take_all}
use native.Mathlib.Omega.{arith}
use Rattle.basis.specs.Limits.{max_terms}
use Rattle.basis.specs.Bits.{Bits}
use Rattle.basis.specs.Counts.{Counts}
use Rattle.lookahead.specs.Sets.{Has, Is, Passes, Repeated}
use Rattle.lookahead.proofs.LanguageLaws.{Strings, joined_map}
use Rattle.lookahead.proofs.PassLaws.{is_map}
use Rattle.table_layout.specs.Places.{rule_word, terms_at, literals_at}
use Rattle.table_layout.specs.Constructs.{construct_at}
use Rattle.table_layout.specs.Attributes.{attributes_of}
use Rattle.table_layout.specs.Held.{opening, held, node_of, parts, allowed, passes_static, HeldNode, term_words}
use Rattle.table_layout.specs.declared.Construct.{Construct}
use Rattle.table_layout.specs.declared.Below.{Below}
use Rattle.table_layout.specs.declared.Attributes.{Attributes}
use Rattle.table_layout.specs.declared.Passes as Times
use Rattle.table_layout.proofs.Views.{is_by, quiet_node}
use Rattle.table_first_follow.specs.Rules.{Family, Some, Members, Applied}
use Rattle.table_first_follow.specs.Rounds.{strings}
use Rattle.table_first_follow.specs.Parts.{siblings, Gathered}
use Rattle.table_first_follow.proofs.HeldLaws.{node_inside, node_opening}
use Rattle.table_first_follow.proofs.PartLaws.{parts_siblings, united, joint, disjoint}
use Rattle.std.specs.Prelude.{Result}
use Rattle.term_words.specs.declared.TermError.{TermError}
use Rattle.term_evaluation.specs.declared.Allowed.{Allowed}

-- ---- the words of the terms, of a table that may be too short

pub no_terms : (ws : List ℕ) → length ws < terms_at → take (length ws - length ws) (drop (length ws) ws) ≡ term_words ws
no_terms ws h =
    ap (λ (l : List ℕ). take (length ws - length ws) l) (drop_of_length-le ws {i = length ws} (omega arith))
    ∙ take_all (length ws - length ws) [] (omega arith) ∙ sym (ap (take (3 * max_terms)) (drop_of_length-le ws {i = terms_at} (omega arith)))

pub few_terms : (ws : List ℕ) → length ws < literals_at → take (length ws - terms_at) (drop terms_at ws) ≡ term_words ws
few_terms ws h =
    let l : length (drop terms_at ws) ≡ length ws - terms_at = length-drop terms_at ws in
    take_all (length ws - terms_at) (drop terms_at ws) (omega arith) ∙ sym (take_all (3 * max_terms) (drop terms_at ws) (omega arith))

-- ---- passes of a set that is given by its words

pub passes_map : (A B : Strings) → ((x : Bits) → A x → B x) → (k : ℕ) (x : Bits) → Passes A k x → Passes B k x
passes_map A B f zero x e = e
passes_map A B f (suc k) x j = joined_map A (Passes A k) B (Passes B k) f (passes_map A B f k) x j

pub is_repeated : (set out : List ℕ) (A : Strings) (counts : Counts) → Is set A → Is out (Repeated (Has set) counts) → Is out (Repeated A counts)
is_repeated set out A counts s r =
    is_map out (Repeated (Has set) counts) (Repeated A counts)
    (λ x. ((λ q. (q.0, q.1, passes_map (Has set) A (λ y h. (s.strings y).0 h) q.0 x q.2)), (λ q. (q.0, q.1, passes_map A (Has set) (λ y h. (s.strings y).1 h) q.0 x q.2)))) r

-- of construct i, from its attributes
module _ (ws words : List ℕ) (i : ℕ) (h : i < 256) (a : Attributes) (e : a ≡ attributes_of (construct_at ws i)) where
  module _ (out : List ℕ) where
    abbrev F : Family
    F = strings words

    abbrev Right : Type 0
    Right = Is out (Applied F ((held ws).node i))

    placed : (c : Construct) → construct_at ws i ≡ c → Is out (Applied F (node_of ws i c)) → Right
    placed c p s = subst (λ (n : HeldNode). Is out (Applied F n)) (sym (node_inside ws i h ∙ ap (node_of ws i) p)) s

    -- one that has no parts
    pub of_none : a.below ≡ Below.Nothing → Is out (λ (x : Bits). ⊥) → Right
    of_none p s =
        let none : (x : Bits) → Applied F (node_of ws i (construct_at ws i)) x → ⊥ =
        quiet_node ws i (λ n. (x : Bits) → Applied F n x → ⊥) (λ x z. Memᴰ.not-nil z.1) (λ w admits static binds x z. z) (λ x z. z) (construct_at ws i) (ap (λ (b : Attributes). b.below) (sym e) ∙ p) in
        placed (construct_at ws i) refl (is_map out (λ (x : Bits). ⊥) (Applied F (node_of ws i (construct_at ws i))) (λ x. ((λ z. absurd z), none x)) s)

    united_parts : (size : ℕ) → Is out (Gathered false F (siblings ws (i + 1) (i + size))) → Is out (Some F (parts size ws (i + 1) (i + size)))
    united_parts size s =
        subst (λ (is : List ℕ). Is out (Some F is)) (sym (parts_siblings ws i size))
        (is_map out (Gathered false F (siblings ws (i + 1) (i + size))) (Some F (siblings ws (i + 1) (i + size))) (λ x. united F (siblings ws (i + 1) (i + size)) x) s)

    pub of_alternative : a.below ≡ Below.Branches → Is out (Gathered false F (siblings ws (i + 1) (i + a.size))) → Right
    unfolding node_of
    of_alternative p s = placed (Construct.Alternative a.size) (is_by (construct_at ws i) a e Below.Branches p) (united_parts a.size s)

    pub of_switch : a.below ≡ Below.Cases → Is out (Gathered false F (siblings ws (i + 1) (i + a.size))) → Right
    unfolding node_of
    of_switch p s = placed (Construct.Switch a.size) (is_by (construct_at ws i) a e Below.Cases p) (united_parts a.size s)

    pub of_concatenation : a.below ≡ Below.Members → Is out (Gathered true F (siblings ws (i + 1) (i + a.size))) → Right
    unfolding node_of
    of_concatenation p s =
        placed (Construct.Concatenation a.size) (is_by (construct_at ws i) a e Below.Members p)
        (subst (λ (is : List ℕ). Is out (Members F is)) (sym (parts_siblings ws i a.size))
        (is_map out (Gathered true F (siblings ws (i + 1) (i + a.size))) (Members F (siblings ws (i + 1) (i + a.size)))
        (λ x. (joint F (siblings ws (i + 1) (i + a.size)) x, disjoint F (siblings ws (i + 1) (i + a.size)) x)) s))

    pub of_repetition : (passes : Times.Passes) (counts : Result Allowed TermError) (set : List ℕ) → a.below ≡ Below.Body passes → allowed counts ≡ passes_static ws passes
        → Is set (F (i + 1)) → Is out (Repeated (Has set) (allowed counts)) → Right
    unfolding node_of
    of_repetition passes counts set p q s o =
        placed (Construct.Repetition a.size passes) (is_by (construct_at ws i) a e (Below.Body passes) p)
        (subst (λ (k : Counts). Is out (Repeated (F (i + 1)) k)) q (is_repeated set out (F (i + 1)) (allowed counts) s o))

    pub of_use : (b : ℕ) → a.below ≡ Below.Rule → b ≡ rule_word ws a.rule 0 → Is out (F b) → Right
    unfolding node_of
    of_use b p q s = placed (Construct.Use a.rule) (is_by (construct_at ws i) a e Below.Rule p) (subst (λ (k : ℕ). Is out (F k)) q s)

pub of_opening : (ws words : List ℕ) (i : ℕ) (out : List ℕ) (b : ℕ) → i ≡ opening → b ≡ rule_word ws 0 0 → Is out (strings words b) → Is out (Applied (strings words) ((held ws).node i))
of_opening ws words i out b p q s =
    subst (λ (n : HeldNode). Is out (Applied (strings words) n)) (sym (node_opening ws i p)) (subst (λ (k : ℕ). Is out (strings words k)) q s)
