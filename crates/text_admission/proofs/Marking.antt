-- The least mark of the constructs passed so far whose body may be empty.
-- Assumes nothing.
use Prim.Native.Nat.{ℕ, ◌+◌, ◌≤◌, ◌<◌, min}
use mathlib.Core.Path.{◌≡◌, refl, ◌∙◌}
use mathlib.Core.Bool.{Bool, true, false, false≢true}
use mathlib.Core.List.{List}
use mathlib.Core.Logic.{◌⊎◌, inl, inr, ⊎_elim}
use native.Mathlib.Omega.{arith}
use native.Mathlib.Decide.{dec_le}
use borrow.Author.Count.{below_none, below_more}
use Rattle.theory.specs.Lookahead.{EmptyBody}
use Rattle.table_layout.specs.Held.{held}
use Rattle.text_names.specs.Counting.{nowhere, place_if}
use Rattle.text_store.specs.Words.{mark_place}
use Rattle.text_admission.specs.Late.{Marks}

module _ (ns ws : List ℕ) where
  -- p is the mark of one of the first n
  abbrev Marked : ℕ → ℕ → Type 0
  Marked n p = (j : ℕ) × (j < n) × EmptyBody (held ws) j × (p ≡ mark_place ns j)

  -- p is at most the mark of construct j, if that counts
  abbrev Beneath : ℕ → ℕ → Type 0
  Beneath p j = EmptyBody (held ws) j → p ≤ mark_place ns j

-- of the first i constructs
pub record Marking (ns ws : List ℕ) (i p : ℕ) : Type 0 where
  pub small : p ≤ nowhere
  pub below : (j : ℕ) → j < i → Beneath ns ws p j
  pub from : (p ≡ nowhere) ⊎ Marked ns ws i p

pub marking_start : {ns ws : List ℕ} → Marking ns ws 0 nowhere
marking_start {ns} {ws} = record { small = omega arith; below = below_none (Beneath ns ws nowhere); from = inl refl }

module _ {ns ws : List ℕ} {i p next : ℕ} (h : Marking ns ws i p) where
  -- one construct more, whose mark, if it counts, is no less than the least
  further : next ≡ p → Beneath ns ws p i → Marking ns ws (i + 1) next
  further e b =
      record {
        small = omega (arith, h.small);
        below = below_more (Beneath ns ws next) i (λ j l k. omega (arith, h.below j l k)) (λ k. omega (arith, b k));
        from = ⊎_elim (λ n. inl (e ∙ n)) (λ m. inr (m.0, omega (arith, m.1), m.2, e ∙ m.3)) h.from;
      }

  -- one construct more, whose mark is the new least
  fewer : next ≡ mark_place ns i → mark_place ns i ≤ p → EmptyBody (held ws) i → Marking ns ws (i + 1) next
  fewer e l b =
      record {
        small = omega (arith, h.small);
        below = below_more (Beneath ns ws next) i (λ j q k. omega (arith, h.below j q k)) (λ k. omega arith);
        from = inr (i, omega arith, b, e);
      }

  pub marking_turn : (empty : Bool) → (empty ≡ true → EmptyBody (held ws) i) → (EmptyBody (held ws) i → empty ≡ true) → next ≡ min p (place_if empty (mark_place ns i)) → Marking ns ws (i + 1) next
  marking_turn true f g e = elim (dec_le p (mark_place ns i)) [ yes l ↦ further (omega arith) (λ k. l) | no l ↦ fewer (omega arith) (omega arith) (f refl) ]
  marking_turn false f g e = further (omega (arith, h.small)) (λ k. absurd (false≢true (g k)))

pub marking_end : {ns ws : List ℕ} {i n p : ℕ} → Marking ns ws i p → i ≡ n → ((j : ℕ) → mark_place ns j ≤ nowhere) → Marks ns ws n p
marking_end h e fits =
    record {
      below = λ j l. h.below j (omega arith);
      found = λ j l b. ⊎_elim (λ z. (j, l, b, omega (arith, h.below j (omega arith) b, fits j))) (λ m. (m.0, omega (arith, m.1), m.2, m.3)) h.from;
    }
