-- FIRST and FOLLOW of K6's grammar, whose strings are shorter than a lookahead string: what follows them is seen.
-- Assumes nothing.
use Prim.Native.Nat.{ℕ, zero, suc}
use mathlib.Core.Path.{refl, sym, subst, ◌∙◌, ap₂}
use mathlib.Core.Logic.{inl, inr}
use mathlib.Core.List.Memᴰ
use mathlib.Core.List.{List, [], ◌∷◌, Memᴰ}
use mathlib.Core.Option.{none, some}
use Rattle.basis.specs.Bits.{Bits, bits_of, append_digits}
use Rattle.basis.specs.Lookahead.{join}
use Rattle.theory.specs.Grammar.{Grammar}
use Rattle.theory.specs.Derivation.{members}
use Rattle.theory.specs.Lookahead.{First, Follow, Continues}
use Rattle.theory.proofs.Sheet.Samples.{SheetGrammar, starred, grammar_of, ones_tests, ones}
use Rattle.theory.proofs.Inversion.{First-of, first_by}
use Rattle.theory.proofs.NodeLaws.{Law}
use Rattle.theory.proofs.Sheet.Numbers.{◌and◌}
use Rattle.theory.proofs.Sheet.Sets.{Exactly, only_one, apart, uint_first, repeat, passes_one}
use Rattle.theory.proofs.Sheet.Nodes.{starred_law}
use Rattle.theory.proofs.Sheet.Follows.{at_end, Claims, claimed, follow_claimed, end_follows_body}

abbrev g : SheetGrammar
g = grammar_of ones

abbrev pub one : Bits
one = bits_of 4 1

abbrev pub two : Bits
two = bits_of 4 2

first_one : Exactly (First-of g 2) (one ∷ [])
unfolding grammar_of ones bits_of append_digits
first_one = uint_first g 2 4 1 one refl refl refl

first_two : Exactly (First-of g 3) (two ∷ [])
unfolding grammar_of ones bits_of append_digits
first_two = uint_first g 3 4 2 two refl refl refl

-- FOLLOW of `*`
two_claimed : (x y : Bits) → First g (members (3 ∷ [])) x → Memᴰ y at_end → Memᴰ (join x y) (two ∷ [])
unfolding bits_of
two_claimed x y f n =
    let (u, z, h, hs, e) = first_by g f in
    Memᴰ.head
    (ap₂ join (e ∙ ap₂ join (Memᴰ.eq_of_singleton ((first_two u).0 h)) (first_by g hs)) (Memᴰ.eq_of_singleton n))

abbrev claims : Claims
claims = some at_end ∷ some (two ∷ []) ∷ none ∷ none ∷ []

two_follows : Follow g 1 two
unfolding grammar_of ones bits_of
two_follows =
    Follow.of_member {i = 0} [] (3 ∷ []) refl (First.more_members ((first_two two).1 (Memᴰ.head refl)) First.no_members refl) (end_follows_body g refl) refl

follow_star : Exactly (Follow g 1) (two ∷ [])
unfolding grammar_of ones claimed
follow_star x = (
  follow_claimed ones claims refl ((two_claimed and (λ x y f h. tt) and tt) and (λ k x y f h. tt) and tt and tt and tt) 1 x,
  only_one (Follow g 1) two_follows x,
)

-- "one or more passes joined with follow": a 1 and the 2, or two 1s, in any grammar whose construct 1 repeats the 1 and is followed by the 2
abbrev pub continuing : List Bits
continuing = bits_of 8 0x12 ∷ bits_of 8 0x11 ∷ []

ones_two : (k : ℕ) → Memᴰ (join (repeat one (suc k)) two) continuing
unfolding repeat bits_of
ones_two zero = Memᴰ.head refl
ones_two (suc k) = Memᴰ.tail (Memᴰ.head refl)

module _ {Context Values : Type 0} (h : Grammar Context Values) (first-1 : Exactly (First-of h 2) (one ∷ [])) (follow-1 : Exactly (Follow h 1) (two ∷ [])) where
  ones_continue : (k : ℕ) → Continues h 1 2 (join (repeat one (suc k)) two)
  ones_continue k = Continues.continues k ((passes_one h 2 one first-1 (suc k) (repeat one (suc k))).1 (Memᴰ.head refl)) ((follow-1 two).1 (Memᴰ.head refl)) refl

  pub continues_ones : Exactly (Continues h 1 2) continuing
  unfolding repeat bits_of
  continues_ones x = (there, back)
    where
      there : Continues h 1 2 x → Memᴰ x continuing
      there (Continues.continues {x = u} {y = w} k f fs e) =
          Memᴰ.cast (e ∙ ap₂ join (Memᴰ.eq_of_singleton ((passes_one h 2 one first-1 (suc k) u).0 f)) (Memᴰ.eq_of_singleton ((follow-1 w).0 fs))) (ones_two k)

      back : Memᴰ x continuing → Continues h 1 2 x
      back m =
          elim (Memᴰ.cases_cons m)
          [ inl e ↦ subst (Continues h 1 2) (sym e) (ones_continue 0) | inr k ↦ subst (Continues h 1 2) (sym (Memᴰ.eq_of_singleton k)) (ones_continue 1) ]

pub star_law : Law g ones_tests 1 (starred 2)
unfolding ones_tests apart bits_of
star_law = starred_law g ones_tests 1 2 (one ∷ []) continuing (two ∷ []) first_one (continues_ones g first_one follow_star) follow_star refl refl refl refl
