-- The strings of a repetition whose counts are capped at 8.
-- Assumes nothing.
use Prim.Native.Nat.{ℕ, ◌+◌, min}
use mathlib.Core.Path.{◌≡◌, sym, ap, subst}
use mathlib.Core.List.{List}
use native.Mathlib.Omega.{arith}
use borrow.Author.Tests.{le-leb}
use Rattle.basis.specs.Bits.{Bits}
use Rattle.basis.specs.Counts.{Counts, between, within}
use Rattle.table_layout.specs.Held.{allowed}
use Rattle.lookahead.specs.Sets.{Is, Repeated}
use Rattle.lookahead.proofs.LanguageLaws.{Strings}
use Rattle.lookahead.proofs.PassLaws.{is_map, is_within}
use Rattle.std.specs.Prelude.{Result}
use Rattle.term_words.specs.declared.TermError.{TermError}
use Rattle.term_evaluation.specs.declared.Allowed.{Allowed}

between_within : (low more : ℕ) → between low (low + more) ≡ within low more
unfolding between
between_within low more = rw (le-leb low (low + more) (omega arith), between) (ap (within low) (omega arith))

module _ (A : Strings) (x : List ℕ) where
  pub is_capped : (low more l m h : ℕ) → l ≡ min low 8 → m ≡ min more 8 → h ≡ min (l + m) 8 → Is x (Repeated A (between l h)) → Is x (Repeated A (within low more))
  is_capped low more l m h el em eh s =
      subst (λ (k : Counts). Is x (Repeated A k)) (between_within low more) (is_within A x low (low + more) l h (omega arith) el (omega arith) s)

-- counts that allow nothing
pub is_no_count : (x : List ℕ) (A : Strings) (counts : Result Allowed TermError) → allowed counts ≡ Counts.none → Is x (λ (s : Bits). ⊥) → Is x (Repeated A (allowed counts))
is_no_count x A counts e s =
    subst (λ (k : Counts). Is x (Repeated A k)) (sym e) (is_map x (λ (t : Bits). ⊥) (Repeated A Counts.none) (λ t. ((λ z. absurd z), (λ q. q.1))) s)
