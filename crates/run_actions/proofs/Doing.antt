-- What holds of every act that is decided: `Doable`.
-- Assumes nothing.
use Prim.Native.Nat.{ℕ, zero, suc, ◌+◌, ◌*◌, ◌-◌, ◌≤◌, ◌<◌}
use native.Mathlib.Omega.{arith}
use borrow.Author.Tests.{leb-true, ltb-true}
use mathlib.Core.Path.{◌≡◌}
use mathlib.Core.Bool.{Bool, true, false, cond, ◌&&◌}
use mathlib.Core.Logic.{inl, inr}
use mathlib.Core.List.{List}
use lib.Dec.{leb, ltb, eqb}
use lib.IntN.{ℤ, pos}
use lib.ListN.{take, drop}
use Rattle.basis.specs.Limits.{max_constructs, max_variables}
use Rattle.basis.specs.Bits.{value, frame_bits}
use Rattle.basis.proofs.Booleans.{both_true, which, picked_true}
use Rattle.term_evaluation.specs.Meaning.{membership}
use Rattle.table_layout.specs.Places.{rule_word, rule_count, construct_count}
use Rattle.table_layout.specs.Constructs.{construct_at}
use Rattle.table_layout.specs.Held.{terms_of, size_of, opening}
use Rattle.table_layout.specs.declared.Construct.{Construct}
use Rattle.run_actions.specs.Stored.{stored, prediction_at, follow_at}
use Rattle.table_layout.proofs.Bounds.{Fine, fine}
use Rattle.run_actions.specs.Acts.{in_table, whole_in_table, terms_in_table, binder_in_table, known_values, enter, open_rule, ahead_at, bits_of, walk, by_branch, branch_act, case_test, by_case, case_act, members_act, by_lookahead, choice_act, turn_act, counted, literal_holds, literal_act, range_act, by_set, kept, number_at, bits_act, construct_act, act_of, part_count, Doable}
use Rattle.run_actions.specs.declared.Act.{Act}
use Rattle.std.specs.Prelude.{Result, Ok, Err}
use Rattle.term_words.specs.declared.TermError.{TermError}
use Rattle.term_evaluation.specs.declared.Allowed.{Allowed}

-- a walk gives what its end, a missing part and each visit give
module _ {A : Type 0} (P : A → Type 0) (visit : ℕ → A → A) (done broken : A) (ws : List ℕ) (end : ℕ) (d : P done) (b : P broken) (v : (j : ℕ) (rest : A) → j < end → P rest → P (visit j rest)) where
  either : (t : Bool) (x : A) → P x → P (elim t [ true ↦ broken | false ↦ x ])
  either true x h = b
  either false x h = h

  step_keeps : (most j : ℕ) → P (walk visit done broken most ws (j + size_of (construct_at ws j)) end) → P (walk visit done broken (suc most) ws j end)
  unfolding walk
  step_keeps most j h =
      elim (which (ltb j end))
      [ inl e ↦ rw (e, walk) (v j _ (ltb-true j end e) (either (eqb (size_of (construct_at ws j)) 0) (walk visit done broken most ws (j + size_of (construct_at ws j)) end) h)) | inr e ↦ rw (e, walk) d ]

  pub walk_keeps : (most j : ℕ) → P (walk visit done broken most ws j end)
  unfolding walk
  walk_keeps zero j = d
  walk_keeps (suc most) j = step_keeps most j (walk_keeps most (j + size_of (construct_at ws j)))

-- the parts up to number `end`, at most so many
module _ (ws : List ℕ) (end : ℕ) where
  abbrev size : ℕ → ℕ
  size j = size_of (construct_at ws j)

  abbrev count_from : ℕ → ℕ → ℕ
  count_from most j = walk (λ i rest. rest + 1) 0 0 most ws j end

  count_few : (most j : ℕ) → count_from most j ≤ most
  unfolding walk
  count_few zero j = omega arith
  count_few (suc most) j =
      elim (which (ltb j end)) [
        | inl e ↦
            elim (which (eqb (size j) 0))
            [ inl z ↦ rw (e, z, walk) (omega arith) | inr z ↦ rw (e, z, walk) (let h : count_from most (j + size j) ≤ most = count_few most (j + size j) in let g : count_from most (j + size j) + 1 ≤ suc most = omega arith in g) ]
        | inr e ↦ rw (e, walk) (omega arith)
      ]

  -- members, counted on from m, are the parts: where they are all there
  members_are : (fs : List ℕ) (p start most j m : ℕ) → end ≤ max_constructs → end ≤ construct_count ws → m + count_from most j ≤ max_constructs → m + count_from most j ≡ part_count ws start end
      → Doable ws fs p (walk {A = ℕ → Act} (λ i rest n. rest (n + 1)) (λ n. Act.Members start end n) (λ n. Act.Broken) most ws j end m)
  unfolding walk
  members_are fs p start zero j m l c few e = (l, omega arith, c, (let z : m ≡ part_count ws start end = omega arith in z))
  members_are fs p start (suc most) j m l c few e =
      elim (which (ltb j end)) [
        | inl t ↦
            elim (which (eqb (size j) 0)) [
              | inl z ↦ rw (t, z, walk) tt
              | inr z ↦
                  let x : m + (count_from most (j + size j) + 1) ≤ max_constructs = rw (t, z, walk) at few in
                  let y : m + (count_from most (j + size j) + 1) ≡ part_count ws start end = rw (t, z, walk) at e in
                  rw (t, z, walk) (members_are fs p start most (j + size j) (m + 1) l c (omega arith) (omega arith))
            ]
        | inr t ↦
            let x : m + 0 ≤ max_constructs = rw (t, walk) at few in
            let y : m + 0 ≡ part_count ws start end = rw (t, walk) at e in
            rw (t, walk) (l, (let z : m ≤ max_constructs = omega arith in z), c, (let z : m ≡ part_count ws start end = omega arith in z))
      ]

module _ (ws fs : List ℕ) (vs : List ℤ) (p : ℕ) where
  abbrev Good : Act → Type 0
  Good = Doable ws fs p

  enter_good : (i : ℕ) → Good (enter ws i)
  enter_good i =
      picked_true Good (in_table ws i) (Act.Enter i) Act.Broken
      (λ e. let x = both_true (ltb i max_constructs) (ltb i (construct_count ws)) e in (ltb-true i max_constructs x.0, ltb-true i (construct_count ws) x.1)) tt

  -- parts that end within the table
  module _ (end : ℕ) (l : end ≤ max_constructs) (c : end ≤ construct_count ws) where
    part_good : (i : ℕ) → i < end → Good (Act.Enter i)
    part_good i m = ((let z : i < max_constructs = omega arith in z), (let z : i < construct_count ws = omega arith in z))

    branch_good : (n j : ℕ) → Good (branch_act ws n j end)
    branch_good n j = walk_keeps Good (λ i rest. by_branch (stored ws (prediction_at i) n) i rest) Act.Fail Act.Broken ws end tt tt (λ i rest m h. visit i rest (stored ws (prediction_at i) n) m h) (end - j) j
      where
        visit : (i : ℕ) (rest : Act) (t : Bool) → i < end → Good rest → Good (by_branch t i rest)
        visit i rest true m h = part_good i m
        visit i rest false m h = h

    case_good : (j : ℕ) → Good (case_act ws vs j end)
    case_good j = walk_keeps Good (λ i rest. by_case (case_test ws vs i) i rest) Act.Leave Act.Broken ws end tt tt (λ i rest m h. visit i rest (case_test ws vs i) m h) (end - j) j
      where
        visit : (i : ℕ) (rest : Act) (t : Result Bool TermError) → i < end → Good rest → Good (by_case t i rest)
        visit i rest (Ok true) m h = part_good i m
        visit i rest (Ok false) m h = h
        visit i rest (Err e) m h = tt

    members_good : (start : ℕ) → Good (members_act ws start end)
    members_good start =
        let few : part_count ws start end ≤ end - start = count_few ws end (end - start) start in
        members_are ws end fs p start (end - start) start 0 l c (let z : 0 + part_count ws start end ≤ max_constructs = omega arith in z) (let z : 0 + part_count ws start end ≡ part_count ws start end = omega arith in z)

  -- a repetition whose body is in the table
  module _ (i : ℕ) (l : i + 1 < max_constructs) (c : i + 1 < construct_count ws) where
    body_good : Good (Act.Again (i + 1))
    body_good = ((let z : i + 1 < max_constructs = omega arith in z), c)

    choice_good : (n : ℕ) → Good (choice_act ws n i)
    choice_good n = by (stored ws (prediction_at (i + 1)) n) (stored ws (follow_at i) n)
      where
        by : (c e : Bool) → Good (by_lookahead c e (i + 1))
        by true e = body_good
        by false true = tt
        by false false = tt

    turn_good : (n k : ℕ) (c : Result Allowed TermError) → Good (turn_act ws n i k c)
    turn_good n k (Ok Allowed.None) = tt
    turn_good n k (Ok (Allowed.From low)) = picked_true Good (ltb k low) (Act.Again (i + 1)) (choice_act ws n i) (λ e. body_good) (choice_good n)
    turn_good n k (Ok (Allowed.Within low more)) =
        picked_true Good (ltb k low) (Act.Again (i + 1)) (cond (leb (low + more) k) Act.Leave (choice_act ws n i)) (λ e. body_good)
        (picked_true Good (leb (low + more) k) Act.Leave (choice_act ws n i) (λ e. tt) (choice_good n))
    turn_good n k (Err e) = tt

  literal_good : (i n : ℕ) → 1 ≤ n → Good (literal_act ws fs p i n)
  literal_good i n some =
      picked_true Good (leb (p + 8 * n) (bits_of fs)) (cond (literal_holds ws fs p i 0 n) (Act.Take (8 * n) 0 (pos 0)) Act.Fail) Act.Fail
      (λ e. picked_true Good (literal_holds ws fs p i 0 n) (Act.Take (8 * n) 0 (pos 0)) Act.Fail (λ h. (leb-true (p + 8 * n) (bits_of fs) e, omega arith, omega arith)) tt) tt

  range_good : (low high : ℕ) → Good (range_act fs p low high)
  range_good low high =
      let v = value (take 8 (drop p (frame_bits fs))) in
      picked_true Good (leb (p + 8) (bits_of fs)) (cond (leb low v && leb v high) (Act.Take 8 0 (pos 0)) Act.Fail) Act.Fail
      (λ e. picked_true Good (leb low v && leb v high) (Act.Take 8 0 (pos 0)) Act.Fail (λ h. (leb-true (p + 8) (bits_of fs) e, omega arith, omega arith)) tt) tt

  set_good : (t : Result Bool TermError) (width binder : ℕ) (n : ℤ) → p + width ≤ bits_of fs → binder ≤ max_variables → 1 ≤ width → Good (by_set t width binder n)
  set_good (Ok true) width binder n a b d = (a, b, d)
  set_good (Ok false) width binder n a b d = tt
  set_good (Err e) width binder n a b d = tt

  uint_good : (signed : Bool) (width start end binder : ℕ) → binder ≤ max_variables → 1 ≤ width → Good (bits_act ws fs vs p signed width start end binder)
  uint_good signed width start end binder m some =
      let v : ℤ = number_at fs p signed width in
      let t : Result Bool TermError = membership vs v start (terms_of ws start end) in
      picked_true Good (leb (p + width) (bits_of fs)) (by_set t width binder (kept binder v)) Act.Fail
      (λ e. set_good t width binder (kept binder v) (leb-true (p + width) (bits_of fs) e) m some) tt

  open_good : (rule : ℕ) → Good (open_rule ws rule)
  open_good rule = picked_true Good (ltb rule (rule_count ws)) (enter ws (rule_word ws rule 0)) Act.Broken (λ e. enter_good (rule_word ws rule 0)) tt

  construct_good : (i k : ℕ) (c : Construct) → Fine i c → i + size_of c ≤ construct_count ws → Good (construct_act ws fs vs p i k c)
  construct_good i k Construct.Missing f l = tt
  construct_good i k (Construct.Alternative size) f l = branch_good (i + size) f.1 l (ahead_at fs p) (i + 1)
  construct_good i k (Construct.Concatenation size) f l = members_good (i + size) f.1 l (i + 1)
  construct_good i k (Construct.Repetition size passes) f l = turn_good i (omega (arith, f.0, f.1)) (omega (arith, f.0)) (ahead_at fs p) k (counted ws vs passes)
  construct_good i k (Construct.Switch size) f l = case_good (i + size) f.1 l (i + 1)
  construct_good i k (Construct.Use rule) f l = open_good rule
  construct_good i k (Construct.Literal n) f l = literal_good i n f.1
  construct_good i k (Construct.Range low high) f l = range_good low high
  construct_good i k (Construct.Uint signed width start end binder) f l =
      picked_true Good (terms_in_table ws end && binder_in_table ws binder) (bits_act ws fs vs p signed width start end binder) Act.Broken (λ e. uint_good signed width start end binder f.5 f.1) tt
  construct_good i k Construct.Eod f l = picked_true Good (eqb p (bits_of fs)) Act.Leave Act.Fail (λ e. tt) tt

pub doable : (ws fs : List ℕ) (vs : List ℤ) (p i k : ℕ) → Doable ws fs p (act_of ws fs vs p i k)
unfolding act_of
doable ws fs vs p i k =
    let us : List ℤ = known_values ws vs in
    let c : Construct = construct_at ws i in
    picked_true (Good ws fs us p) (eqb i opening) (open_rule ws 0) (cond (whole_in_table ws i) (construct_act ws fs us p i k c) Act.Broken) (λ e. open_good ws fs us p 0)
    (picked_true (Good ws fs us p) (whole_in_table ws i) (construct_act ws fs us p i k c) Act.Broken
    (λ e. construct_good ws fs us p i k c (fine ws i) (leb-true (i + size_of c) (construct_count ws) e)) tt)
