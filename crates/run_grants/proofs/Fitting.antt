-- What 24 asks, read entry by entry, and of room without sums that might not fit a word.
-- Assumes nothing.
use Prim.Native.Nat.{ℕ, zero, suc, ◌+◌, ◌*◌, ◌-◌, ◌/◌, ◌≤◌, ◌<◌}
use native.Mathlib.Omega.{arith}
use borrow.Author.Tests.{leb-true, leb-false, le-leb, lt-leb}
use mathlib.Core.Path.{◌≡◌, refl, sym, ap, ◌∙◌}
use mathlib.Core.Bool.{Bool, true, false, ◌&&◌}
use mathlib.Core.List.{List}
use lib.Dec.{leb}
use lib.IntN.{ℤ}
use lib.ListN.{length, get_or}
use Rattle.basis.specs.Limits.{table_words, max_entries}
use Rattle.basis.proofs.Booleans.{both_true}
use Rattle.run_actions.specs.Acts.{bits_of}
use Rattle.run_steps.specs.Steps.{whole, Fits}
use Rattle.run_steps.specs.declared.Head.{Head}
use Rattle.run_grants.specs.Runs.{entry_fits, entries_fit, fitting}

module _ (ws : List ℕ) (bits : ℕ) (cs ps : List ℕ) where
  -- the last of those left
  pub entries_next : (n : ℕ) → 0 < n → entries_fit ws bits cs ps n ≡ (entry_fits ws bits (get_or cs (n - 1) 0) (get_or ps (n - 1) 0) && entries_fit ws bits cs ps (n - 1))
  unfolding entries_fit
  entries_next zero l = absurd (omega arith)
  entries_next (suc n) l = ap (λ (k : ℕ). entry_fits ws bits (get_or cs k 0) (get_or ps k 0) && entries_fit ws bits cs ps k) (let z : n ≡ suc n - 1 = omega arith in z)

  pub entries_none : (n : ℕ) → n ≡ 0 → entries_fit ws bits cs ps n ≡ true
  unfolding entries_fit
  entries_none zero e = refl
  entries_none (suc n) e = absurd (omega arith)

  pub entries_turn : (n : ℕ) → 0 < n → entry_fits ws bits (get_or cs (n - 1) 0) (get_or ps (n - 1) 0) ≡ true → entries_fit ws bits cs ps (n - 1) ≡ entries_fit ws bits cs ps n
  entries_turn n l h = sym (entries_next n l ∙ ap (λ (t : Bool). t && entries_fit ws bits cs ps (n - 1)) h)

  pub entries_stop : (n : ℕ) → 0 < n → entry_fits ws bits (get_or cs (n - 1) 0) (get_or ps (n - 1) 0) ≡ false → entries_fit ws bits cs ps n ≡ false
  entries_stop n l h = entries_next n l ∙ ap (λ (t : Bool). t && entries_fit ws bits cs ps (n - 1)) h

-- two tests that hold together
leb_same : (a b c d : ℕ) → (a ≤ b → c ≤ d) → (c ≤ d → a ≤ b) → leb a b ≡ leb c d
leb_same a b c d f g = by (leb a b) refl
  where
    by : (t : Bool) → leb a b ≡ t → t ≡ leb c d
    by true e = sym (le-leb c d (f (leb-true a b e)))
    by false e = other (leb c d) refl
      where
        other : (u : Bool) → leb c d ≡ u → false ≡ u
        other false k = refl
        other true k = absurd (let x : a ≤ b = g (leb-true c d k) in let y : b < a = leb-false a b e in omega arith)

-- room for what is recorded and unread, where the unread has room
pub room_left : (room captures unread : ℕ) → unread ≤ room / 2 → leb captures (room / 2 - unread) ≡ leb (2 * (captures + unread)) room
room_left room captures unread l = leb_same captures (room / 2 - unread) (2 * (captures + unread)) room (λ h. omega arith) (λ h. omega arith)

pub no_room : (room captures unread : ℕ) → room / 2 < unread → leb (2 * (captures + unread)) room ≡ false
no_room room captures unread l = lt-leb (2 * (captures + unread)) room (omega arith)

-- what 24 asks beside the entries
pub record Rest (ws fs : List ℕ) (room : ℕ) (h : Head) : Type 0 where
  pub table : table_words ≤ length ws
  pub position : h.position ≤ bits_of fs
  pub verdict : h.verdict ≤ 4
  pub count : h.count ≤ max_entries
  pub roomy : 2 * (h.captures + (bits_of fs - h.position)) ≤ room

module _ (ws fs : List ℕ) (room : ℕ) (cs ps : List ℕ) (h : Head) where
  pub fitting_rest : fitting ws fs room cs ps h ≡ true → Rest ws fs room h
  unfolding fitting
  fitting_rest e =
      let all : Bool = entries_fit ws (bits_of fs) cs ps h.count in
      let last : Bool = leb (2 * (h.captures + (bits_of fs - h.position))) room in
      let a = both_true (leb table_words (length ws)) (leb h.position (bits_of fs) && (leb h.verdict 4 && (leb h.count max_entries && (all && last)))) e in
      let b = both_true (leb h.position (bits_of fs)) (leb h.verdict 4 && (leb h.count max_entries && (all && last))) a.1 in
      let v = both_true (leb h.verdict 4) (leb h.count max_entries && (all && last)) b.1 in
      let n = both_true (leb h.count max_entries) (all && last) v.1 in
      record {
        table = leb-true table_words (length ws) a.0;
        position = leb-true h.position (bits_of fs) b.0;
        verdict = leb-true h.verdict 4 v.0;
        count = leb-true h.count max_entries n.0;
        roomy = leb-true (2 * (h.captures + (bits_of fs - h.position))) room (both_true all last n.1).1;
      }

  -- where the rest holds, only the entries are asked
  pub rest_fitting : Rest ws fs room h → fitting ws fs room cs ps h ≡ entries_fit ws (bits_of fs) cs ps h.count
  unfolding fitting
  rest_fitting r = simp (le-leb _ _ r.table, le-leb _ _ r.position, le-leb _ _ r.verdict, le-leb _ _ r.count, le-leb _ _ r.roomy) (both_last (entries_fit ws (bits_of fs) cs ps h.count))
    where
      both_last : (t : Bool) → (t && true) ≡ t
      both_last true = refl
      both_last false = refl

-- what passes 24 may take steps
pub fitting_fits : (ws fs : List ℕ) (cs ps : List ℕ) (vs : List ℤ) (rs : List ℕ) (h : Head) → length cs ≡ max_entries → length ps ≡ max_entries → fitting ws fs (length rs) cs ps h ≡ true
    → (table_words ≤ length ws) × Fits fs (whole cs ps vs rs h)
fitting_fits ws fs cs ps vs rs h lc lp e =
    let r = fitting_rest ws fs (length rs) cs ps h e in
    let m : 2 * (h.captures + (bits_of fs - h.position)) ≤ length rs = r.roomy in
    (r.table, (r.position, r.count, (let z : 2 * h.captures ≤ length rs = omega arith in z), lc, lp))
