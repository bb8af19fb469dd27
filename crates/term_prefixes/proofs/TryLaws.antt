-- Laws of values that wait, and of the walk over a set's ends.
-- Assumes nothing.
use Prim.Native.Nat.{ℕ, ◌+◌, ◌^◌, ◌≤◌, ◌<◌}
use mathlib.Core.Path.{◌≡◌, sym, subst, ◌∙◌}
use mathlib.Core.Bool.{Bool}
use mathlib.Core.Logic.{◌⊎◌, inl, inr, ⊎_elim}
use mathlib.Core.List.{List}
use native.Mathlib.Omega.{arith}
use lib.IntN.{ℤ}
use lib.ListN.{get_or, set, length-set}
use lib.Pow.{pow_mono}
use lib.Seq.{get_or-set_same, get_or-set_other}
use Rattle.term_membership.specs.Effects.{turn_of}
use Rattle.term_membership.specs.declared.Effect.{Effect}
use Rattle.term_evaluation.proofs.Runs.{terms_next, terms_none}
use Rattle.term_words.specs.Words.{term_at, terms}
use Rattle.term_words.specs.declared.Numbers.{Numbers}
use Rattle.term_words.specs.declared.Term.{Term}
use Rattle.term_prefixes.specs.Marks.{Hits, Sound, Sought, Among, Ready, Found, Offered, ChangesAt, HereOrOn, Changes}
use Rattle.term_prefixes.specs.declared.Tried.{Tried}
use Rattle.std.specs.Prelude.{Option, Some, None}

-- ---- handing values over

-- a value that has a window is a number of 64 bits
pub hits_fit : (f : ℕ → Bool) (w k v : ℕ) → w ≤ 64 → Hits f w k v → v < 2 ^ 64
hits_fit f w k v l h = let p : 2 ^ w ≤ 2 ^ 64 = pow_mono {i = w} {j = 64} l in let q : v < 2 ^ w = h.less in omega arith

module _ (f : ℕ → Bool) (w : ℕ) where
  pub offered_none : (t : Tried) → Ready t → Offered f w (λ (v : ℕ). ⊥) t t
  offered_none t r = record { ready = r; sound = λ s. s; kept = λ k z. z; hit = λ k v p h. absurd p }

  pub offered_more : (P Q : ℕ → Type 0) (a b c : Tried) → Offered f w P a b → Offered f w Q b c → Offered f w (λ (v : ℕ). P v ⊎ Q v) a c
  offered_more P Q a b c p q = record {
    ready = q.ready;
    sound = λ s. q.sound (p.sound s);
    kept = λ k z. q.kept k (p.kept k z);
    hit = λ k v r h. ⊎_elim (λ x. q.kept k (p.hit k v x h)) (λ y. q.hit k v y h) r;
  }

  -- handed over for other values that have a window
  pub offered_as : (P Q : ℕ → Type 0) → ((k v : ℕ) → Q v → Hits f w k v → P v) → (a b : Tried) → Offered f w P a b → Offered f w Q a b
  offered_as P Q g a b p = record { ready = p.ready; sound = p.sound; kept = p.kept; hit = λ k v q h. p.hit k v (g k v q h) h }

  module _ (t : Tried) (value : ℕ) (r : Ready t) where
    abbrev values : List ℕ
    values = set t.values t.waiting value

    here : get_or values t.waiting 0 ≡ value
    here = get_or-set_same t.values t.waiting value 0 (omega (arith, r.values, r.room))

    other : (j : ℕ) → j < t.waiting → get_or t.values j 0 ≡ get_or values j 0
    other j h = sym (get_or-set_other t.values t.waiting j value 0 (λ z. omega arith))

    -- it waits
    pub offered_waits : t.waiting < 63 → Offered f w (λ (v : ℕ). value ≡ v) t (record { values = values; waiting = t.waiting + 1; marks = t.marks })
    offered_waits l = record { ready = record { values = length-set t.values t.waiting value ∙ r.values; marks = r.marks; room = omega arith }; sound = λ s. s; kept = kept; hit = λ k v p h. inr (t.waiting, omega arith, subst (Hits f w k) (sym p ∙ sym here) h) }
      where
        kept : (k : ℕ) → Found f w k t → Found f w k (record { values = values; waiting = t.waiting + 1; marks = t.marks })
        kept k (inl z) = inl z
        kept k (inr (j, h, z)) = inr (j, omega arith, subst (Hits f w k) (other j h) z)

    -- all are tried
    pub offered_tried : (new : List ℕ) → Sought f w (Among values 64) t.marks new → Offered f w (λ (v : ℕ). value ≡ v) t (record { values = values; waiting = 0; marks = new })
    offered_tried new s = record { ready = record { values = length-set t.values t.waiting value ∙ r.values; marks = s.all; room = omega arith }; sound = s.sound; kept = kept; hit = λ k v p h. inl (s.hit k v (t.waiting, r.room, here ∙ p) h) }
      where
        kept : (k : ℕ) → Found f w k t → Found f w k (record { values = values; waiting = 0; marks = new })
        kept k (inl z) = inl (s.kept k z)
        kept k (inr (j, h, z)) = let l : t.waiting < 64 = r.room in inl (s.hit k (get_or t.values j 0) (j, omega arith, sym (other j h)) z)

-- ---- the walk

-- the walk has come to a place
pub record Walking (f : ℕ → Bool) (w o : ℕ) (env : List ℤ) (ws : List ℕ) (start end : ℕ) (old : Tried) (now : Tried) (at : ℕ) (s : Numbers) : Type 0 where
  pub ready : Ready now
  pub sound : Sound f w old.marks → Sound f w now.marks
  pub kept : (k : ℕ) → Found f w k old → Found f w k now
  pub hit : (k v : ℕ) → Changes o env v (terms ws start end) Numbers.Zero → Hits f w k v → Found f w k now ⊎ Changes o env v (terms ws at end) s

module _ (f : ℕ → Bool) (w o : ℕ) (env : List ℤ) (ws : List ℕ) (start end : ℕ) (old : Tried) where
  abbrev All : ℕ → Type 0
  All v = Changes o env v (terms ws start end) Numbers.Zero

  pub walk_begins : Ready old → Walking f w o env ws start end old old start Numbers.Zero
  walk_begins r = record { ready = r; sound = λ s. s; kept = λ k z. z; hit = λ k v x h. inr x }

  module _ (now : Tried) (at : ℕ) (s : Numbers) (m : Walking f w o env ws start end old now at s) where
    -- nothing is left
    rest_none : (v : ℕ) → end ≤ at → Changes o env v (terms ws at end) s → ⊥
    unfolding Changes
    rest_none v h x = subst (λ (xs : List Term). Changes o env v xs s) (terms_none ws at end h) x

    pub walk_out : end ≤ at → Offered f w All old now
    walk_out h = record { ready = m.ready; sound = m.sound; kept = m.kept; hit = λ k v x z. ⊎_elim (λ y. y) (λ y. absurd (rest_none v h y)) (m.hit k v x z) }

    rest_one : (v : ℕ) → at < end → (r : Option (Numbers × Effect)) → r ≡ turn_of o env (term_at ws at) s → Changes o env v (terms ws at end) s → HereOrOn (λ s'. Changes o env v (terms ws (at + 1) end) s') v r
    unfolding Changes
    rest_one v h r e x = subst (HereOrOn (λ s'. Changes o env v (terms ws (at + 1) end) s') v) (sym e) (subst (λ (xs : List Term). Changes o env v xs s) (terms_next ws at end h) x)

    pub walk_off : at < end → None ≡ turn_of o env (term_at ws at) s → Offered f w All old now
    walk_off h e = record { ready = m.ready; sound = m.sound; kept = m.kept; hit = λ k v x z. ⊎_elim (λ y. y) (λ y. absurd (rest_one v h None e y)) (m.hit k v x z) }

    pub walk_on : at < end → (s' : Numbers) (e : Effect) → Some (s', e) ≡ turn_of o env (term_at ws at) s → (next : Tried) → Offered f w (ChangesAt e) now next → Walking f w o env ws start end old next (at + 1) s'
    walk_on h s' e q next p = record { ready = p.ready; sound = λ x. p.sound (m.sound x); kept = λ k z. p.kept k (m.kept k z); hit = hit }
      where
        hit : (k v : ℕ) → Changes o env v (terms ws start end) Numbers.Zero → Hits f w k v → Found f w k next ⊎ Changes o env v (terms ws (at + 1) end) s'
        hit k v x z =
            ⊎_elim (λ y. inl (p.kept k y))
            (λ (y : Changes o env v (terms ws at end) s). ⊎_elim (λ c. inl (p.hit k v c z)) (λ c. inr c) (rest_one v h (Some (s', e)) q y)) (m.hit k v x z)
