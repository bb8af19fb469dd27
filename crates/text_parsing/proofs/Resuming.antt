-- A reader goes on: a part takes a terminal, has come to its end, or the terminal cannot stand there.
-- Assumes nothing.
use Prim.Native.Nat.{ℕ, suc, ◌-◌, ◌<◌}
use mathlib.Core.Path.{◌≡◌, refl, sym, ap, subst, ◌∙◌}
use mathlib.Core.Logic.{⊎_elim}
use mathlib.Core.Bool.{true, false}
use mathlib.Core.List.{List, ◌∷◌}
use native.Mathlib.Omega.{arith}
use borrow.Author.Tests.{eqb-true}
use lib.Dec.{eqb}
use lib.ListN.{length}
use Rattle.basis.proofs.Booleans.{which}
use Rattle.text_parsing.specs.Terminals.{terminal, terminal_of, terminals_from, terminals_after, live}
use Rattle.text_store.specs.Store.{State}
use Rattle.text_parsing.specs.Symbols.{Symbol}
use Rattle.text_parsing.specs.Form.{Consumed, go, done, fault, consume, Outcome, right, refused, run}
use Rattle.text_parsing.specs.Cursors.{resume_at, left_at}
use Rattle.text_parsing.specs.declared.Terminal.{Terminal}
use Rattle.text_parsing.proofs.TerminalLaws.{Shows, end_shown, live_shown, shows, terminals_on, live_end}

pub live_zero : (n : ℕ) → live n ≡ true → eqb n 0 ≡ false
live_zero n e = ⊎_elim (λ (z : eqb n 0 ≡ true). absurd (dead n (eqb-true n 0 z) e)) (λ z. z) (which (eqb n 0))
  where
    dead : (k : ℕ) → k ≡ 0 → live k ≡ true → ⊥
    dead k z l = let w : live 0 ≡ true = subst (λ (j : ℕ). live j ≡ true) z l in let v : ◌≡◌ {A = ℕ} 0 1 = cc in omega arith

module _ (xs : List ℕ) (s : Terminal) (st : State) (ks : List Symbol) where
  resume_live : eqb s.code 0 ≡ false → resume_at xs s st ks ≡ run (s ∷ terminals_after xs s) st ks
  unfolding resume_at
  resume_live e = rw (e, resume_at)

  resume_dead : eqb s.code 0 ≡ true → resume_at xs s st ks ≡ refused s.start
  unfolding resume_at
  resume_dead e = rw (e, resume_at)

abbrev consumed : List Terminal → Terminal → Consumed → Outcome
consumed rest s (go st ks) = run rest st ks
consumed rest s (done st) = right st
consumed rest s fault = refused s.start

run_by : (rest : List Terminal) (s : Terminal) (st : State) (ks : List Symbol) (f : Consumed) → consume s st ks ≡ f → run (s ∷ rest) st ks ≡ consumed rest s f
unfolding run
run_by rest s st ks (go a b) e = rw (e, run)
run_by rest s st ks (done a) e = rw (e, run)
run_by rest s st ks fault e = rw (e, run)

run_fed : (rest : List Terminal) (s : Terminal) (st : State) (ks : List Symbol) → run (s ∷ rest) st ks ≡ consumed rest s (consume s st ks)
run_fed rest s st ks = run_by rest s st ks (consume s st ks) refl

-- parts that have come to their end
pub skips : (xs : List ℕ) (s : Terminal) (st st' : State) (ks ks' : List Symbol) → consume s st ks ≡ consume s st' ks' → resume_at xs s st ks ≡ resume_at xs s st' ks'
skips xs s st st' ks ks' e =
    ⊎_elim (λ z. resume_dead xs s st ks z ∙ sym (resume_dead xs s st' ks' z))
    (λ z.
    resume_live xs s st ks z
    ∙ run_fed (terminals_after xs s) s st ks
    ∙ ap (consumed (terminals_after xs s) s) e
    ∙ sym (run_fed (terminals_after xs s) s st' ks')
    ∙ sym (resume_live xs s st' ks' z))
    (which (eqb s.code 0))

-- a terminal that cannot stand there
pub stops : (xs : List ℕ) (s : Terminal) (st : State) (ks : List Symbol) → consume s st ks ≡ fault → resume_at xs s st ks ≡ refused s.start
stops xs s st ks e =
    ⊎_elim (λ z. resume_dead xs s st ks z)
    (λ z. resume_live xs s st ks z ∙ run_fed (terminals_after xs s) s st ks ∙ ap (consumed (terminals_after xs s) s) e)
    (which (eqb s.code 0))

-- the same, with a cursor that has failed
pub faults : (xs : List ℕ) (s : Terminal) (end value : ℕ) (st st' : State) (ks ks' : List Symbol) → consume s st ks ≡ fault → resume_at xs s st ks ≡ resume_at xs (terminal 0 s.start end value) st' ks'
faults xs s end value st st' ks ks' e = stops xs s st ks e ∙ sym (resume_dead xs (terminal 0 s.start end value) st' ks' refl)

-- the terminals after one, from the next on
after_live : (xs : List ℕ) (s : Terminal) → live s.code ≡ true → terminals_after xs s ≡ terminals_from xs s.end
unfolding terminals_after
after_live xs s l = rw (live_end s.code l, terminals_after)

next_live : (xs : List ℕ) (at : ℕ) → eqb (terminal_of xs at).code 0 ≡ false
next_live xs at = from (shows xs at)
  where
    from : Shows xs at (terminal_of xs at) → eqb (terminal_of xs at).code 0 ≡ false
    from (end_shown e) = rw e
    from (live_shown l m i) = live_zero (terminal_of xs at).code l

-- a terminal that is taken
pub takes : (xs : List ℕ) (s : Terminal) (st st' : State) (ks ks' : List Symbol) → live s.code ≡ true → consume s st ks ≡ go st' ks' → resume_at xs s st ks ≡ resume_at xs (terminal_of xs s.end) st' ks'
takes xs s st st' ks ks' l e =
    resume_live xs s st ks (live_zero s.code l)
    ∙ run_fed (terminals_after xs s) s st ks
    ∙ ap (consumed (terminals_after xs s) s) e
    ∙ ap (λ (rest : List Terminal). run rest st' ks') (after_live xs s l ∙ terminals_on xs s.end)
    ∙ sym (resume_live xs (terminal_of xs s.end) st' ks' (next_live xs s.end))

-- the whole text
pub starts : (xs : List ℕ) (at : ℕ) (st : State) (ks : List Symbol) → resume_at xs (terminal_of xs at) st ks ≡ run (terminals_from xs at) st ks
starts xs at st ks = resume_live xs (terminal_of xs at) st ks (next_live xs at) ∙ ap (λ (rest : List Terminal). run rest st ks) (sym (terminals_on xs at))

-- a terminal that ends it
pub ends : (xs : List ℕ) (s : Terminal) (st st' : State) (ks : List Symbol) → eqb s.code 0 ≡ false → consume s st ks ≡ done st' → resume_at xs s st ks ≡ right st'
ends xs s st st' ks z e = resume_live xs s st ks z ∙ run_fed (terminals_after xs s) s st ks ∙ ap (consumed (terminals_after xs s) s) e

-- ---- what is left falls

left_live : (xs : List ℕ) (s : Terminal) → live s.code ≡ true → left_at xs s ≡ suc (suc (length xs - s.end))
unfolding left_at
left_live xs s l = rw (live_zero s.code l, live_end s.code l, left_at)

left_ended : (xs : List ℕ) (s : Terminal) → s.code ≡ 5 → left_at xs s ≡ 1
unfolding left_at
left_ended xs s z = rw z

pub left_falls : (xs : List ℕ) (s : Terminal) → live s.code ≡ true → left_at xs (terminal_of xs s.end) < left_at xs s
left_falls xs s l = from (shows xs s.end)
  where
    from : Shows xs s.end (terminal_of xs s.end) → left_at xs (terminal_of xs s.end) < left_at xs s
    from (end_shown e) = omega (arith, left_live xs s l, left_ended xs (terminal_of xs s.end) e)
    from (live_shown k m i) = omega (arith, left_live xs s l, left_live xs (terminal_of xs s.end) k)

pub left_failed : (xs : List ℕ) (start end value : ℕ) → left_at xs (terminal 0 start end value) ≡ 0
unfolding left_at
left_failed xs start end value = refl

pub left_some : (xs : List ℕ) (s : Terminal) → eqb s.code 0 ≡ false → 0 < left_at xs s
unfolding left_at
left_some xs s e = ⊎_elim (λ (z : eqb s.code 5 ≡ true). rw (e, z, left_at) (omega arith)) (λ (z : eqb s.code 5 ≡ false). rw (e, z, left_at) (omega arith)) (which (eqb s.code 5))

pub left_dead : (xs : List ℕ) (s : Terminal) → eqb s.code 0 ≡ true → left_at xs s ≡ 0
unfolding left_at
left_dead xs s e = rw (e, left_at)

-- after a failure nothing matters
pub dead_same : (xs : List ℕ) (s : Terminal) (st st' : State) (ks ks' : List Symbol) → eqb s.code 0 ≡ true → resume_at xs s st ks ≡ resume_at xs s st' ks'
dead_same xs s st st' ks ks' e = resume_dead xs s st ks e ∙ sym (resume_dead xs s st' ks' e)
