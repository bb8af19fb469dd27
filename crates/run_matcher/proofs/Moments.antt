-- A run that was opened, after any number of steps: what 24 asks, when it is decided and how, and what its reading holds.
-- Assumes nothing.
use Prim.Native.Nat.{ℕ, zero, suc, ◌+◌, ◌*◌, ◌-◌, ◌≤◌, ◌<◌, min}
use native.Mathlib.Omega.{arith}
use borrow.Author.Tests.{le-leb, lt-ltb, eq-eqb}
use mathlib.Core.Path.{◌≡◌, refl, sym, subst, ◌∙◌}
use mathlib.Core.Logic.{◌↔◌, inl, inr}
use mathlib.Core.Bool.{Bool, true, false, cond}
use mathlib.Core.List.{List, ◌++◌}
use lib.Dec.{eqb}
use lib.ListN.{length, get_or, replicate, drop, length-set, length-replicate}
use Rattle.basis.specs.Limits.{max_constructs, max_frame_bytes, max_entries}
use Rattle.basis.specs.Bits.{frame_bits}
use Rattle.theory.specs.Grammar.{Grammar}
use Rattle.theory.specs.Derivation.{Tree, captures, Derivation}
use Rattle.theory.specs.Machine.{tree_steps, opened, granted}
use Rattle.theory.specs.Scope.{localised}
use Rattle.theory.specs.Theorems.{Derivable}
use Rattle.table_layout.specs.Places.{table_words, table_of, construct_count, weight_of}
use Rattle.table_layout.specs.Held.{Context, Values, opening, held}
use Rattle.table_scope.specs.Scope.{store, scope_of, fresh}
use Rattle.table_weights.proofs.Heights.{weight_at}
use Rattle.table_weights.proofs.Rooms.{rooms}
use Rattle.table_sizes.specs.Measures.{widest}
use Rattle.run_actions.specs.Stored.{tests_of}
use Rattle.run_actions.specs.Acts.{bits_of, in_table}
use Rattle.run_steps.specs.Steps.{Whole, whole, steps_of}
use Rattle.run_steps.proofs.Running.{steps_stay}
use Rattle.run_refinement.specs.Runs.{words_of, reading_of, head_of as head_in, run_of}
use Rattle.run_refinement.proofs.Safety.{InTable}
use Rattle.run_refinement.proofs.Reliable.{Reliable}
use Rattle.run_refinement.proofs.Openings.{Opening}
use Rattle.run_refinement.proofs.Fitting.{Fitting, fitting, agrees}
use Rattle.run_refinement.proofs.Conclusions.{decides, match_iff_local, mismatch_iff_local, match_end_local}
use Rattle.table_hypotheses.proofs.Reliability.{reliable, weight_stored}
use Rattle.table_hypotheses.proofs.Trust.{trusted}
use Rattle.run_grants.specs.Runs.{head_of, whole_of, opened_run, entries_fit, refusal_of}
use Rattle.run_grants.specs.declared.Run.{Run}
use Rattle.run_grants.proofs.Fitting.{Rest, rest_fitting}
use Rattle.run_grants.proofs.Taken.{steps_add}
use Rattle.run_matcher.specs.Opening.{Opened}

-- ---- what fits passes 21 and 24

-- no more constructs are counted than there may be
in_table_true : (ws : List ℕ) (i : ℕ) → construct_count ws ≤ max_constructs → InTable ws i → cond (eqb i opening) true (in_table ws i) ≡ true
in_table_true ws i few (inl e) = rw (eq-eqb i opening e) refl
in_table_true ws i few (inr l) =
    rw (lt-ltb i (construct_count ws) l, lt-ltb i max_constructs (let z : i < max_constructs = omega arith in z)) (by (eqb i opening))
  where
    by : (t : Bool) → cond t true true ≡ true
    by true = refl
    by false = refl

module _ (ws : List ℕ) (few : construct_count ws ≤ max_constructs) (bits : ℕ) (cs ps : List ℕ) where
  all_fit : (n : ℕ) → ((j : ℕ) → j < n → InTable ws (get_or cs j 0) × (get_or ps j 0 ≤ bits + 1)) → entries_fit ws bits cs ps n ≡ true
  unfolding entries_fit
  all_fit zero each = refl
  all_fit (suc n) each =
      let x = each n (omega arith) in
      simp (le-leb (get_or ps n 0) (bits + 1) x.1, in_table_true ws (get_or cs n 0) few x.0) (all_fit n (λ j l. each j (omega arith)))

pub admitted : (ws fs rs : List ℕ) (run : Run) → construct_count ws ≤ max_constructs → table_words ≤ length ws → length fs ≤ max_frame_bytes → Fitting ws fs (whole_of rs run) → refusal_of ws fs rs run ≡ 0
admitted ws fs rs run few long short f =
    let r : Rest ws fs (length rs) (head_of run) = record { table = long; position = f.fits.0; verdict = omega (arith, f.verdict); count = f.fits.1; roomy = f.room } in
    let e = rest_fitting ws fs (length rs) run.constructs run.passes (head_of run) r ∙ all_fit ws few (bits_of fs) run.constructs run.passes run.count f.entry in
    simp (le-leb (length fs) max_frame_bytes short, e)

module _ (ws fs rs : List ℕ) (o : Opened ws fs rs) where
  -- the table's own words
  abbrev pub table : List ℕ
  table = table_of ws

  pub words : Reliable table (widest table) (λ c i. weight_at table i) (rooms table)
  words = reliable o.0.1

  pub begun : Opening fs opened_run.constructs opened_run.passes rs
  begun =
      record {
        short = o.1;
        constructs = length-set {A = ℕ} (replicate max_entries 0) 0 opening ∙ length-replicate {A = ℕ} max_entries 0;
        passes = length-replicate {A = ℕ} max_entries 0;
        first = refl;
        none_begun = refl;
        room = o.2;
      }

  -- the run and the reading after so many steps
  abbrev pub at : ℕ → Whole
  at m = steps_of table fs m (whole_of rs opened_run)

  pub fits_at : (m : ℕ) → Fitting table fs (at m)
  unfolding held
  fits_at m = fitting table (widest table) (λ c i. weight_at table i) (rooms table) words fs opened_run.constructs opened_run.passes rs begun m

  -- the words' run is the theory's, on the grammar that the words hold
  pub run_at : (m : ℕ) → run_of fs (at m) ≡ granted (held table) (tests_of table) m (opened (held table) (tests_of table) (frame_bits fs))
  unfolding held
  run_at m = agrees table (widest table) (λ c i. weight_at table i) (rooms table) words fs opened_run.constructs opened_run.passes rs begun m

  pub own_admitted : (m : ℕ) (run : Run) (rs' : List ℕ) → whole_of rs' run ≡ at m → refusal_of table fs rs' run ≡ 0
  own_admitted m run rs' e = admitted table fs rs' run words.laid.counts.constructs words.laid.long o.1 (subst (Fitting table fs) (sym e) (fits_at m))

  -- decided within the bound, and each step counted until then
  pub record Course : Type 0 where
    pub needed : ℕ
    pub within_bound : needed ≤ weight_of table * (bits_of fs + 1)
    pub steps : (n : ℕ) → (head_in (at n)).steps ≡ min n needed
    pub undecided_iff : (n : ℕ) → ((head_in (at n)).verdict ≡ 0) ↔ (n < needed)

  pub course : Course
  unfolding held
  course =
      let d = decides table (widest table) (λ c i. weight_at table i) (rooms table) words fs opened_run.constructs opened_run.passes rs begun in
      record {
        needed = d.needed;
        within_bound = subst (λ (k : ℕ). d.needed ≤ k * (bits_of fs + 1)) (weight_stored o.0.1) d.within_bound;
        steps = d.steps;
        undecided_iff = d.undecided_iff;
      }

  -- a decided run stays
  pub at_rest : (m n : ℕ) → ((head_in (at m)).verdict ≡ 0 → ⊥) → at (m + n) ≡ at m
  at_rest m n h = sym (steps_add table fs m n (whole_of rs opened_run)) ∙ stay (at m) h
    where
      stay : (w : Whole) → ((head_in w).verdict ≡ 0 → ⊥) → steps_of table fs n w ≡ w
      stay (whole cs ps vs zs h) d = steps_stay table fs n cs ps vs zs h d

  -- ---- the derivations of the table's grammar

  abbrev pub local : Grammar Context Values
  local = localised store (scope_of table) fresh (held table)

  module _ (m : ℕ) (decided : (head_in (at m)).verdict ≡ 0 → ⊥) where
    -- more steps than any run takes, which change nothing
    abbrev more : ℕ
    more = weight_at table opening * (bits_of fs + 1)

    pub match_at : ((head_in (at m)).verdict ≡ 1) ↔ Derivable local (frame_bits fs)
    unfolding held
    match_at =
        subst (λ (w : Whole). ((head_in w).verdict ≡ 1) ↔ Derivable local (frame_bits fs)) (at_rest m more decided)
        (match_iff_local table (widest table) (λ c i. weight_at table i) (rooms table) words fs opened_run.constructs opened_run.passes rs begun store (scope_of table) fresh (trusted table o.0.1).lexical (m + more) (omega arith))

    pub no_match_at : ((head_in (at m)).verdict ≡ 2) ↔ (Derivable local (frame_bits fs) → ⊥)
    unfolding held
    no_match_at =
        subst (λ (w : Whole). ((head_in w).verdict ≡ 2) ↔ (Derivable local (frame_bits fs) → ⊥)) (at_rest m more decided)
        (mismatch_iff_local table (widest table) (λ c i. weight_at table i) (rooms table) words fs opened_run.constructs opened_run.passes rs begun store (scope_of table) fresh (trusted table o.0.1).lexical (m + more) (omega arith))

    -- its fields are the reading's first words
    abbrev Listed : Tree → Whole → Type 0
    Listed t w = ((head_in w).captures ≡ length (captures t 0)) × (reading_of w ≡ words_of (captures t 0) ++ drop (2 * length (captures t 0)) rs)

    pub fields_at : (t : Tree) (v : Values) → Derivation local (frame_bits fs) t v → Listed t (at m)
    unfolding held
    fields_at t v d =
        let x = match_end_local table (widest table) (λ c i. weight_at table i) (rooms table) words fs opened_run.constructs opened_run.passes rs begun store (scope_of table) fresh (trusted table o.0.1).lexical t v d (m + tree_steps t) (omega arith) in
        subst (Listed t) (at_rest m (tree_steps t) decided) (x.2.fields, x.2.reading)
