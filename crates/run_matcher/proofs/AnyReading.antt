-- Steps read of a reading only its length: where it has room, all else is the same whatever words it holds.
-- Assumes nothing.
use Prim.Native.Nat.{ℕ, zero, suc, ◌+◌, ◌*◌, ◌-◌, ◌≤◌, ◌<◌}
use native.Mathlib.Omega.{arith}
use native.Mathlib.Decide.{dec_lt}
use borrow.Author.Tests.{le-leb}
use mathlib.Core.Path.{◌≡◌, refl, sym, ap, subst, ◌∙◌}
use mathlib.Core.Bool.{Bool, true, false, cond, ◌&&◌}
use mathlib.Core.List.{List, [], ◌∷◌}
use lib.Dec.{leb, ltb, eqb}
use lib.IntN.{ℤ}
use lib.ListN.{length, get_or}
use Rattle.table_layout.specs.Held.{opening}
use Rattle.basis.specs.Limits.{max_frame_bytes, max_entries}
use Rattle.table_layout.specs.Places.{table_of}
use Rattle.run_actions.specs.Acts.{bits_of, act_of, Doable}
use Rattle.run_actions.specs.declared.Act.{Act}
use Rattle.run_actions.proofs.Doing.{doable}
use Rattle.run_steps.specs.Steps.{Whole, whole, effect, in_bound, step_of, steps_of}
use Rattle.run_steps.specs.declared.Head.{Head}
use Rattle.run_refinement.specs.Runs.{head_of as head_in}
use Rattle.run_refinement.proofs.Fitting.{Fitting}
use Rattle.run_grants.specs.Runs.{head_of, run_of, whole_of, opened_run, fitting, refusal_of, After, run_in, answer_in, after_steps, grant_of, number_of}
use Rattle.run_grants.specs.declared.Run.{Run}
use Rattle.run_grants.specs.declared.Answer.{Answer}
use Rattle.run_grants.proofs.Fitting.{fitting_rest}
use Rattle.run_grants.proofs.Kept.{Roomy, steps_roomy}
use Rattle.run_grants.proofs.Taken.{steps_add}
use Rattle.run_grants.proofs.Grants.{refusal_told, refused as refused-law, granted as granted-law}
use Rattle.run_matcher.specs.Opening.{Opened}
use Rattle.run_matcher.specs.Conditions.{own, run_kept, after_grants, here, Handing, handing, run_after, now, further, AnyReading}
use Rattle.run_matcher.proofs.Moments.{admitted, words, at, fits_at}

-- the same with another reading
abbrev over : List ℕ → Whole → Whole
over rs (whole cs ps vs zs h) = whole cs ps vs rs h

over_over : (rs zs : List ℕ) (w : Whole) → over rs (over zs w) ≡ over rs w
over_over rs zs (whole cs ps vs ys h) = refl

-- the same but for the reading
abbrev Alike : Whole → Whole → Type 0
Alike a b = over [] a ≡ over [] b

picked : (t : Bool) (a b a' b' : Whole) → Alike a a' → Alike b b' → Alike (cond t a b) (cond t a' b')
picked true a b a' b' x y = x
picked false a b a' b' x y = y

-- ---- a step

module _ (ws fs cs ps : List ℕ) (vs : List ℤ) (h : Head) (rs rs' : List ℕ) where
  abbrev Room : List ℕ → Type 0
  Room zs = 2 * (h.captures + (bits_of fs - h.position)) ≤ length zs

  effect_alike : Room rs → Room rs' → (i k : ℕ) (a : Act) → Doable ws fs h.position a → Alike (effect ws fs i k cs ps vs rs h a) (effect ws fs i k cs ps vs rs' h a)
  effect_alike r r' i k Act.Broken d = refl
  effect_alike r r' i k Act.Fail d = refl
  effect_alike r r' i k (Act.Enter b) d = refl
  effect_alike r r' i k (Act.Members start end n) d = picked (leb (h.count + n) (max_entries + 1)) _ _ _ _ refl refl
  effect_alike r r' i k (Act.Again b) d = picked (ltb h.count max_entries && ltb k (bits_of fs + 1)) _ _ _ _ refl refl
  effect_alike r r' i k Act.Leave d = refl
  effect_alike r r' i k (Act.Take width binder n) d =
      rw (le-leb (2 * h.captures + 2) (length rs) (omega (arith, d.0, d.2)), le-leb (2 * h.captures + 2) (length rs') (omega (arith, d.0, d.2))) refl

  step_alike : Room rs → Room rs' → Alike (step_of ws fs (whole cs ps vs rs h)) (step_of ws fs (whole cs ps vs rs' h))
  unfolding step_of
  step_alike r r' =
      let i : ℕ = get_or cs (h.count - 1) 0 in
      let k : ℕ = get_or ps (h.count - 1) 0 in
      picked (eqb h.verdict 0) _ _ _ _
      (picked (in_bound ws fs h.steps) _ _ _ _
      (picked (eqb h.count 0) _ _ _ _ refl
      (picked (leb i opening) _ _ _ _ (effect_alike r r' i k (act_of ws fs vs h.position i k) (doable ws fs vs h.position i k)) refl))
      refl)
      refl

module _ (ws fs : List ℕ) where
  one_alike : (m m' : ℕ) (w w' : Whole) → Roomy ws fs m w → Roomy ws fs m' w' → Alike w w' → Alike (step_of ws fs w) (step_of ws fs w')
  one_alike m m' (whole cs ps vs rs h) (whole cs' ps' vs' rs' h') r r' e =
      let q : Roomy ws fs m' (whole cs ps vs rs' h) = subst (λ (x : Whole). Roomy ws fs m' (over rs' x)) (sym e) r' in
      step_alike ws fs cs ps vs h rs rs' (omega (arith, r.1, r.2)) (omega (arith, q.1, q.2)) ∙ ap (λ (x : Whole). over [] (step_of ws fs (over rs' x))) e

  steps_alike : (n m m' : ℕ) (w w' : Whole) → Roomy ws fs m w → Roomy ws fs m' w' → Alike w w' → Alike (steps_of ws fs n w) (steps_of ws fs n w')
  unfolding steps_of
  steps_alike zero m m' w w' r r' e = e
  steps_alike (suc n) m m' w w' r r' e =
      steps_alike n m m' (step_of ws fs w) (step_of ws fs w') (steps_roomy ws fs m 1 w r) (steps_roomy ws fs m' 1 w' r') (one_alike m m' w w' r r' e)

-- ---- a run that was opened

-- "two words for each field recorded and bit unread"
abbrev room_for : List ℕ → Run → ℕ
room_for fs run = 2 * (run.captures + (bits_of fs - run.position))

none_refused : (s t : Bool) → ◌≡◌ {A = ℕ} (cond s (cond t 0 24) 21) 0 → t ≡ true
none_refused true true e = refl
none_refused true false e = absurd (omega arith)
none_refused false t e = absurd (omega arith)

refused_or_not : (t : Bool) → (◌≡◌ {A = ℕ} (cond t 0 24) 0 → ⊥) → ◌≡◌ {A = ℕ} (cond t 0 24) 24
refused_or_not true h = absurd (h refl)
refused_or_not false h = refl

-- what fits has room, and fits with any reading that has it
roomy_of : (ws fs : List ℕ) (w : Whole) → Fitting ws fs w → (m : ℕ) × Roomy ws fs m w
roomy_of ws fs (whole cs ps vs rs h) f = (length rs, (omega (arith, f.verdict), refl, f.room))

fitting_over : (ws fs zs : List ℕ) (w : Whole) → 2 * ((head_in w).captures + (bits_of fs - (head_in w).position)) ≤ length zs → Fitting ws fs w → Fitting ws fs (over zs w)
fitting_over ws fs zs (whole cs ps vs rs h) l f =
    record { fits = (f.fits.0, f.fits.1, (let z : 2 * h.captures ≤ length zs = omega arith in z), f.fits.3, f.fits.4); verdict = f.verdict; entry = f.entry; room = l }

-- what a grant leaves but the reading
abbrev run_from : Whole → Run
run_from (whole cs ps vs rs h) = run_of h cs ps vs

made_run : (before : ℕ) (w : Whole) → run_in (after_steps before w) ≡ run_from (over [] w)
made_run before (whole cs ps vs rs h) = refl

made_answer : (before : ℕ) (w : Whole) → answer_in (after_steps before w) ≡ Answer.Taken ((head_in (over [] w)).steps - before)
made_answer before (whole cs ps vs rs h) = refl

module _ (ws fs rs : List ℕ) (o : Opened ws fs rs) where
  abbrev t : List ℕ
  t = table_of ws

  -- but for its reading, the run is what m steps make
  abbrev Stands : ℕ → Run → Type 0
  Stands m run = Alike (whole_of [] run) (at ws fs rs o m)

  module _ (m : ℕ) (run : Run) (e : Stands m run) (zs : List ℕ) where
    abbrev given : ℕ → After
    given = grant_of t fs zs run

    same_whole : whole_of zs run ≡ over zs (at ws fs rs o m)
    same_whole = ap (over zs) e ∙ over_over zs [] (at ws fs rs o m)

    same_head : head_of run ≡ head_in (at ws fs rs o m)
    same_head = ap head_in e ∙ over_head (at ws fs rs o m)
      where
        over_head : (w : Whole) → head_in (over [] w) ≡ head_in w
        over_head (whole cs ps vs ys h) = refl

    fits : room_for fs run ≤ length zs → Fitting t fs (whole_of zs run)
    fits l =
        subst (Fitting t fs) (sym same_whole)
        (fitting_over t fs zs (at ws fs rs o m) (subst (λ (h : Head). 2 * (h.captures + (bits_of fs - h.position)) ≤ length zs) same_head l) (fits_at ws fs rs o m))

    passes : room_for fs run ≤ length zs → refusal_of t fs zs run ≡ 0
    passes l = admitted t fs zs run (words ws fs rs o).laid.counts.constructs (words ws fs rs o).laid.long o.1 (fits l)

    room_there : refusal_of t fs zs run ≡ 0 → room_for fs run ≤ length zs
    room_there z =
        (fitting_rest t fs (length zs) run.constructs run.passes (head_of run)
        (none_refused (leb (length fs) max_frame_bytes) (fitting t fs (length zs) run.constructs run.passes (head_of run)) z)).roomy

    refused_24 : length zs < room_for fs run → refusal_of t fs zs run ≡ 24
    refused_24 l =
        let q : leb (length fs) max_frame_bytes ≡ true = le-leb (length fs) max_frame_bytes o.1 in
        let f : Bool = fitting t fs (length zs) run.constructs run.passes (head_of run) in
        ap (λ (s : Bool). cond s (cond f 0 24) 21) q
        ∙ refused_or_not f (λ z. (let r : room_for fs run ≤ length zs = room_there (ap (λ (s : Bool). cond s (cond f 0 24) 21) q ∙ z) in omega arith))

    -- where it has room, the steps are those of the run's own reading
    steps_same : (n : ℕ) → room_for fs run ≤ length zs → Alike (steps_of t fs n (whole_of zs run)) (at ws fs rs o (m + n))
    steps_same n l =
        let a = roomy_of t fs (whole_of zs run) (fits l) in
        let b = roomy_of t fs (at ws fs rs o m) (fits_at ws fs rs o m) in
        steps_alike t fs n a.0 b.0 (whole_of zs run) (at ws fs rs o m) a.1 b.1 e ∙ ap (over []) (steps_add t fs m n (whole_of rs opened_run))

    handed : (n : ℕ) → (k : ℕ) × Stands k (run_in (given n))
    handed n =
        elim (dec_lt (length zs) (room_for fs run)) [
          | yes l ↦ (m, ap (λ (r : Run). whole_of [] r) (refused-law t fs zs run n (λ z. (let q : refusal_of t fs zs run ≡ 24 = refused_24 l in omega arith))).0 ∙ e)
          | no l ↦ (let r : room_for fs run ≤ length zs = omega arith in
              (m + n, ap (λ (x : After). whole_of [] (run_in x)) (granted-law t fs zs run n (passes r)) ∙ (made_whole run.steps (steps_of t fs n (whole_of zs run)) ∙ steps_same n r)))
        ]
      where
        made_whole : (before : ℕ) (w : Whole) → whole_of [] (run_in (after_steps before w)) ≡ over [] w
        made_whole before (whole cs ps vs ys h) = refl

  -- after the whole list
  stands : (hs : List Handing) (m : ℕ) (run : Run) → Stands m run → (k : ℕ) × Stands k (run_after ws fs hs run)
  unfolding run_after
  stands [] m run e = (m, e)
  stands (handing zs n ∷ hs) m run e = let x = handed m run e zs n in stands hs x.0 (run_in (grant_of t fs zs run n)) x.1

  -- the run that a grant of m with its own reading leaves
  run_own : (m : ℕ) → run_kept (here ws fs rs (own m ∷ [])) ≡ run_from (over [] (at ws fs rs o m))
  unfolding after_grants steps_of
  run_own m = ap run_in (granted-law t fs rs opened_run m (passes 0 opened_run refl rs (omega (arith, o.2)))) ∙ made_run 0 (at ws fs rs o m)

  module _ (hs : List Handing) (m : ℕ) (e : Stands m (now ws fs hs)) where
    abbrev r : Run
    r = now ws fs hs

    not_granted : (zs : List ℕ) (n : ℕ) → number_of (answer_in (further ws fs hs zs n)) ≡ 24 → room_for fs r ≤ length zs → ⊥
    not_granted zs n z l = omega (arith, z, refusal_told t fs zs r n, passes m r e zs l)

    not_below : (a b : ℕ) → (a ≤ b → ⊥) → b < a
    not_below a b h = omega (arith, h)

    stands_so : AnyReading ws fs hs rs
    stands_so =
        record {
          not_broken = λ z. omega (arith, z, ap (λ (h : Head). h.verdict) (same_head m r e []), (fits_at ws fs rs o m).verdict);
          as_own = (m, ap run_from e ∙ sym (run_own m));
          granted_iff = λ zs n. (λ z. room_there m r e zs (sym (refusal_told t fs zs r n) ∙ z), λ l. refusal_told t fs zs r n ∙ passes m r e zs l);
          refused_iff = λ zs n. (λ z. not_below (room_for fs r) (length zs) (not_granted zs n z), λ l. refusal_told t fs zs r n ∙ refused_24 m r e zs l);
          same = λ zs zs' n l l'. (
              let w : Whole = steps_of t fs n (whole_of zs r) in
              let w' : Whole = steps_of t fs n (whole_of zs' r) in
              let g = granted-law t fs zs r n (passes m r e zs l) in
              let g' = granted-law t fs zs' r n (passes m r e zs' l') in
              let s : Alike w w' = steps_same m r e zs n l ∙ sym (steps_same m r e zs' n l') in (
                ap run_in g ∙ (made_run r.steps w ∙ (ap run_from s ∙ sym (ap run_in g' ∙ made_run r.steps w'))),
                ap answer_in g ∙ (made_answer r.steps w ∙ (ap (λ (x : Whole). Answer.Taken ((head_in x).steps - r.steps)) s ∙ sym (ap answer_in g' ∙ made_answer r.steps w'))),
              )
              );
        }

  pub any_reading : (hs : List Handing) → AnyReading ws fs hs rs
  unfolding steps_of
  any_reading hs = let x = stands hs 0 opened_run refl in stands_so hs x.0 x.1
