-- Over reliable words every act is safe: it is not broken, and leads to constructs that are there and to values within their sizes.
-- Assumes nothing.
use Prim.Native.Nat.{ℕ, zero, suc, ◌+◌, ◌*◌, ◌-◌, ◌≤◌, ◌<◌, min}
use native.Mathlib.Omega.{arith}
use borrow.Author.Tests.{le-leb, lt-ltb, eq-eqb, ne_eqb, ltb-true}
use mathlib.Core.Path.{◌≡◌, refl, ◌∙◌, ap, ap₂, subst}
use mathlib.Core.Logic.{◌⊎◌, inl, inr}
use mathlib.Core.Bool.{Bool, true, false, ◌&&◌}
use mathlib.Core.List.{List}
use lib.Dec.{leb, ltb, eqb}
use lib.IntN.{ℤ, pos, nat_abs}
use lib.ListN.{take, drop, get_or}
use Rattle.basis.specs.Limits.{max_constructs, max_bound_width}
use Rattle.basis.specs.Bits.{value, frame_bits}
use Rattle.basis.specs.Counts.{Counts, from, within}
use Rattle.basis.specs.Patterns.{greatest_size}
use Rattle.basis.proofs.Booleans.{which, either_way}
use Rattle.term_evaluation.specs.Meaning.{membership}
use Rattle.term_evaluation.specs.Counts.{counts, shown}
use Rattle.term_sizes.specs.Inside.{Inside}
use Rattle.term_sizes.proofs.Theorems.{set_passes, condition_passes, counts_pass}
use Rattle.table_layout.specs.Places.{rule_word, construct_word, variable_word, rule_count, construct_count, variable_count, term_count}
use Rattle.table_layout.specs.Constructs.{construct_at}
use Rattle.table_layout.specs.Held.{Context, size_of, term_words, terms_of, opening}
use Rattle.table_layout.specs.declared.Construct.{Construct}
use Rattle.table_layout.specs.declared.Passes.{Passes}
use Rattle.table_wellformed.specs.Checks.{size_at}
use Rattle.table_layout.proofs.Bounds.{Fine, fine}
use Rattle.table_layout.proofs.Views.{Parted, parted}
use Rattle.table_structure.proofs.RuleLaws.{rule_of, rule_within}
use Rattle.table_structure.proofs.Owners.{rule_holds}
use Rattle.table_structure.proofs.NodeFacts.{present, use_names, body_exists}
use Rattle.run_actions.specs.Stored.{stored, prediction_at, follow_at}
use Rattle.run_actions.specs.Acts.{known_values, enter, open_rule, ahead_at, bits_of, walk, by_branch, branch_act, case_test, by_case, case_act, members_act, by_lookahead, choice_act, turn_act, counted, literal_holds, kept, by_set, number_at, construct_act, act_of}
use Rattle.run_actions.specs.declared.Act.{Act}
use Rattle.run_refinement.proofs.Walks.{Definite}
use Rattle.run_refinement.proofs.Widths.{binder_width, read_within}
use Rattle.run_refinement.proofs.Reliable.{Reliable, condition_answers, counts_answer, set_answers}
use Rattle.run_refinement.proofs.Ends.{condition_ends, counts_end, set_ends}
use Rattle.run_refinement.proofs.Values.{condition_known, set_known, counts_known}
use Rattle.std.specs.Prelude.{Result, Ok}
use Rattle.term_words.specs.declared.TermError.{TermError}

-- a binder's values: 1 + a variable whose size is at least that of the value; 0 binds none
abbrev pub Binds : List ℤ → ℕ → ℤ → Type 0
Binds widest zero n = Unit {0}
Binds widest (suc x) n = (s : ℕ) × (get_or widest x (pos 0) ≡ pos s) × (nat_abs n ≤ s)

-- an act that is not broken and leads to constructs that are there, and to values within their sizes
abbrev pub Safe : List ℕ → List ℤ → Act → Type 0
Safe ws widest Act.Broken = ⊥
Safe ws widest Act.Fail = Unit {0}
Safe ws widest (Act.Enter b) = b < construct_count ws
Safe ws widest (Act.Members start end n) = end ≤ construct_count ws
Safe ws widest (Act.Again b) = b < construct_count ws
Safe ws widest Act.Leave = Unit {0}
Safe ws widest (Act.Take width binder n) = Binds widest binder n

pub safe_definite : (ws : List ℕ) (widest : List ℤ) (a : Act) → Safe ws widest a → Definite a
safe_definite ws widest a s e = subst (Safe ws widest) e s

-- the opening use, or a construct of the table
abbrev pub InTable : List ℕ → ℕ → Type 0
InTable ws i = (i ≡ opening) ⊎ (i < construct_count ws)

-- a walk over parts that are all there gives what its end and each visit give
module _ {A : Type 0} (P : A → Type 0) (visit : ℕ → A → A) (done broken : A) (ws : List ℕ) (end : ℕ)
    (d : P done) (there : (j : ℕ) → j < end → size_at ws j ≡ 0 → ⊥) (v : (j : ℕ) (rest : A) → j < end → P rest → P (visit j rest)) where
  walk_holds : (most j : ℕ) → P (walk visit done broken most ws j end)
  unfolding walk
  walk_holds zero j = d
  walk_holds (suc most) j =
      elim (which (ltb j end)) [
        | inl e ↦
            let l : j < end = ltb-true j end e in
            rw (e, ne_eqb (size_at ws j) 0 (there j l), walk) (v j (walk visit done broken most ws (j + size_at ws j) end) l (walk_holds most (j + size_at ws j)))
        | inr e ↦ rw (e, walk) d
      ]

module _ (ws : List ℕ) (widest : List ℤ) {weight rooms : Context → ℕ → ℕ} (r : Reliable ws widest weight rooms) (fs : List ℕ) (vs : List ℤ) (inside : Inside vs widest) (p : ℕ) where
  abbrev Good : Act → Type 0
  Good = Safe ws widest

  abbrev us : List ℤ
  us = known_values ws vs

  there : (end : ℕ) → end ≤ construct_count ws → (j : ℕ) → j < end → size_at ws j ≡ 0 → ⊥
  there end l j h z = sized (parted (construct_at ws j)) refl (fine ws j) z
    where
      sized : {c : Construct} → Parted c → construct_at ws j ≡ c → Fine j c → size_of c ≡ 0 → ⊥
      sized Parted.missing e f z = present r.laid j (omega arith) e
      sized (Parted.branches n) e f z = omega (arith, f.0)
      sized (Parted.members n) e f z = omega (arith, f.0)
      sized (Parted.body n q) e f z = omega (arith, f.0)
      sized (Parted.cases n) e f z = omega (arith, f.0)
      sized (Parted.opens rule) e f z = omega arith
      sized (Parted.leaf k) e f z = omega (arith, k.size)

  -- a construct ends within the table
  ends : (i n : ℕ) → i < construct_count ws → size_at ws i ≡ n → i + n ≤ construct_count ws
  ends i n h e = omega (arith, rule_holds r.laid i h, rule_within r.laid (rule_of r.laid i h).rule (rule_of r.laid i h).exists)

  -- a value that a binder gives is within its variable's size
  binds_within : (i : ℕ) (signed : Bool) (width start end binder : ℕ) → i < construct_count ws → construct_at ws i ≡ Construct.Uint signed width start end binder → (0 < binder → width ≤ max_bound_width)
      → Binds widest binder (kept binder (number_at fs p signed width))
  binds_within i signed width start end zero h e w = tt
  binds_within i signed width start end (suc x) h e w =
      let b = binder_width r.laid i signed width start end x h e in
      let l : width ≤ max_bound_width = w (omega arith) in
      let m : min max_bound_width (variable_word ws x 1) ≡ width = omega (arith, b.width_is) in
      (greatest_size signed width, r.each_widest x b.known ∙ ap₂ (λ (s : Bool) (k : ℕ). pos (greatest_size s k)) b.sign_is m, read_within signed width (drop p (frame_bits fs)))

  -- a binder is one of the table's variables
  binder_counted : (i : ℕ) (signed : Bool) (width start end binder : ℕ) → i < construct_count ws → construct_at ws i ≡ Construct.Uint signed width start end binder → binder ≤ variable_count ws
  binder_counted i signed width start end zero h e = omega arith
  binder_counted i signed width start end (suc x) h e = (binder_width r.laid i signed width start end x h e).counted

  enter_safe : (b : ℕ) → b < construct_count ws → Good (enter ws b)
  enter_safe b l = rw (lt-ltb b max_constructs (omega (arith, r.laid.counts.constructs)), lt-ltb b (construct_count ws) l) l

  open_safe : (rule : ℕ) → rule < rule_count ws → Good (open_rule ws rule)
  open_safe rule l = rw (lt-ltb rule (rule_count ws) l) (enter_safe (rule_word ws rule 0) (body_exists r.laid rule l))

  branch_safe : (n j end : ℕ) → end ≤ construct_count ws → Good (branch_act ws n j end)
  branch_safe n j end l =
      walk_holds Good (λ i rest. by_branch (stored ws (prediction_at i) n) i rest) Act.Fail Act.Broken ws end tt (there end l) (λ i rest m h. visit i rest (stored ws (prediction_at i) n) m h) (end - j) j
    where
      visit : (i : ℕ) (rest : Act) (t : Bool) → i < end → Good rest → Good (by_branch t i rest)
      visit i rest true m h = omega arith
      visit i rest false m h = h

  case_safe : (j end : ℕ) → end ≤ construct_count ws → Good (case_act ws us j end)
  case_safe j end l = walk_holds Good (λ i rest. by_case (case_test ws us i) i rest) Act.Leave Act.Broken ws end tt (there end l) (λ i rest m h. visit i rest (tested i (omega arith)) m h) (end - j) j
    where
      -- a case's condition comes to an answer
      tested : (i : ℕ) → i < construct_count ws → (case_test ws us i ≡ Ok false) ⊎ (case_test ws us i ≡ Ok true)
      tested i h =
          elim (which (ltb (construct_word ws i 6) (construct_word ws i 7))) [
            | inl t ↦
                let l : construct_word ws i 6 < construct_word ws i 7 = ltb-true (construct_word ws i 6) (construct_word ws i 7) t in
                rw (t, le-leb (construct_word ws i 7) (term_count ws) (condition_ends r i h l), condition_known r.laid vs i h) (condition_passes vs widest inside (construct_word ws i 6) (terms_of ws (construct_word ws i 6) (construct_word ws i 7)) (condition_answers r i h l))
            | inr t ↦ inr (rw t)
          ]

      visit : (i : ℕ) (rest : Act) → (case_test ws us i ≡ Ok false) ⊎ (case_test ws us i ≡ Ok true) → i < end → Good rest → Good (by_case (case_test ws us i) i rest)
      visit i rest (inl e) m h = rw e h
      visit i rest (inr e) m h = rw e (omega arith)

  members_safe : (start end : ℕ) → end ≤ construct_count ws → Good (members_act ws start end)
  members_safe start end l = walk_holds {A = ℕ → Act} (λ f. (n : ℕ) → Good (f n)) (λ i rest n. rest (n + 1)) (λ n. Act.Members start end n) (λ n. Act.Broken) ws end (λ n. l) (there end l) (λ i rest m h n. h (n + 1)) (end - start) start 0

  choice_safe : (n i : ℕ) → i + 1 < construct_count ws → Good (choice_act ws n i)
  choice_safe n i l = by (stored ws (prediction_at (i + 1)) n) (stored ws (follow_at i) n)
    where
      by : (c e : Bool) → Good (by_lookahead c e (i + 1))
      by true e = l
      by false true = tt
      by false false = tt

  turn_safe : (n i k : ℕ) (c : Counts) → i + 1 < construct_count ws → Good (turn_act ws n i k (shown c))
  turn_safe n i k Counts.none l = tt
  turn_safe n i k (Counts.from low) l = either_way Good (ltb k low) l (choice_safe n i l)
  turn_safe n i k (Counts.within low more) l =
      either_way Good (ltb k low) l (either_way Good (leb (low + more) k) tt (choice_safe n i l))

  counts_shown : (i n : ℕ) (q : Passes) → i < construct_count ws → construct_at ws i ≡ Construct.Repetition n q → (c : Counts) × (counted ws us q ≡ shown c)
  counts_shown i n Passes.Optional h e = (within 0 1, refl)
  counts_shown i n Passes.Any h e = (from 0, refl)
  counts_shown i n Passes.Some h e = (from 1, refl)
  counts_shown i n (Passes.Counted start end) h e = rw (le-leb end (term_count ws) (counts_end r i h n start end e), counts_known r.laid vs i h n start end e) (counts_pass vs widest inside (term_words ws) start end (counts_answer r i n start end h e))

  set_safe : (t : Result Bool TermError) (width binder : ℕ) (n : ℤ) → (t ≡ Ok false) ⊎ (t ≡ Ok true) → Binds widest binder n → Good (by_set t width binder n)
  set_safe t width binder n (inl e) b = rw e tt
  set_safe t width binder n (inr e) b = rw e b

  construct_safe : (i k : ℕ) (c : Construct) → i < construct_count ws → construct_at ws i ≡ c → Good (construct_act ws fs us p i k c)
  construct_safe i k Construct.Missing h e = present r.laid i h e
  construct_safe i k (Construct.Alternative n) h e = branch_safe (ahead_at fs p) (i + 1) (i + n) (ends i n h (ap size_of e))
  construct_safe i k (Construct.Concatenation n) h e = members_safe (i + 1) (i + n) (ends i n h (ap size_of e))
  construct_safe i k (Construct.Repetition n q) h e =
      let x = counts_shown i n q h e in
      let two : 2 ≤ n = (rw e at (fine ws i)).0 in
      rw x.1 (turn_safe (ahead_at fs p) i k x.0 (omega (arith, ends i n h (ap size_of e))))
  construct_safe i k (Construct.Switch n) h e = case_safe (i + 1) (i + n) (ends i n h (ap size_of e))
  construct_safe i k (Construct.Use rule) h e = open_safe rule (use_names r.laid i rule h e)
  construct_safe i k (Construct.Literal n) h e =
      either_way Good (leb (p + 8 * n) (bits_of fs)) (either_way Good (literal_holds ws fs p i 0 n) tt tt) tt
  construct_safe i k (Construct.Range low high) h e =
      let v = value (take 8 (drop p (frame_bits fs))) in
      either_way Good (leb (p + 8) (bits_of fs)) (either_way Good (leb low v && leb v high) tt tt) tt
  construct_safe i k (Construct.Uint signed width start end binder) h e =
      let v : ℤ = number_at fs p signed width in
      let t : Result Bool TermError = membership us v start (terms_of ws start end) in
      rw (le-leb end (term_count ws) (set_ends r i h signed width start end binder e), le-leb binder (variable_count ws) (binder_counted i signed width start end binder h e))
      (either_way Good (leb (p + width) (bits_of fs))
      (set_safe t width binder (kept binder v) (rw (set_known r.laid vs i h signed width start end binder e v) (set_passes vs widest inside v start (terms_of ws start end) (set_answers r i signed width start end binder h e)))
      (binds_within i signed width start end binder h e (rw e at (fine ws i)).6))
      tt)
  construct_safe i k Construct.Eod h e = either_way Good (eqb p (bits_of fs)) tt tt

  pub act_safe : (i k : ℕ) → InTable ws i → Good (act_of ws fs vs p i k)
  unfolding act_of
  act_safe i k (inl e) = rw (eq-eqb i opening e) (open_safe 0 r.laid.counts.some_rule)
  act_safe i k (inr l) =
      rw (ne_eqb i opening (λ e. omega (arith, r.laid.counts.constructs)), le-leb (i + size_at ws i) (construct_count ws) (ends i (size_at ws i) l refl)) (construct_safe i k (construct_at ws i) l refl)
