-- What a program sees of a run, from what the run over words is.
-- Assumes nothing.
use Prim.Native.Nat.{ℕ, zero, suc, ◌*◌, ◌≤◌}
use mathlib.Core.Path.{◌≡◌, refl, sym, ap, ap₂, subst, ◌∙◌}
use mathlib.Core.List.{List, [], ◌∷◌, ◌++◌}
use native.Mathlib.Omega.{arith}
use lib.ListN.{length, drop, replicate, length-set, length-replicate}
use Rattle.basis.specs.Limits.{max_entries}
use Rattle.theory.specs.Derivation.{Capture, captures}
use Rattle.theory.specs.Machine.{Tests}
use Rattle.table_layout.specs.Places.{table_of}
use Rattle.table_layout.specs.Held.{opening}
use Rattle.run_steps.specs.Steps.{Whole}
use Rattle.run_refinement.specs.Runs.{HeldRun, words_of, recorded, verdict_as, head_of, reading_of, run_of}
use Rattle.run_refinement.proofs.Pending.{recorded_length}
use Rattle.run_refinement.proofs.Readings.{reading_is}
use Rattle.run_grants.specs.Runs.{whole_of, opened_run}
use Rattle.run_grants.specs.declared.Run.{Run}
use Rattle.run_matcher.specs.Windows.{Tells}
use Rattle.run_matcher.specs.Conditions.{Grant, granted as steps-granted, run_kept, reading_kept, here, Granted, BySteps}
use Rattle.tree.specs.Tree.{Rules}
use Rattle.tree_meaning.specs.Grammar.{tree_grammar}
use Rattle.tree_meaning.specs.Local.{local_grammar}
use Rattle.conditions.specs.Meaning.{Seen, verdict_number, field_words, listing, Truthful, Shown, Seeing}
use Rattle.conditions.specs.Conditions.{Exact}

-- what is seen of a run and its reading
abbrev pub seen_of : Run → List ℕ → Seen
seen_of r zs = record { verdict = r.verdict; steps = r.steps; position = r.position; fields = r.captures; values = r.values; reading = zs }

same_words : (cs : List Capture) → words_of cs ≡ field_words cs
unfolding words_of field_words
same_words [] = refl
same_words (c ∷ cs) = ap (λ (l : List ℕ). c.construct ∷ c.first_bit ∷ l) (same_words cs)

numbered_back : (n : ℕ) → n ≤ 2 → n ≡ verdict_number (verdict_as n)
numbered_back zero l = refl
numbered_back (suc zero) l = refl
numbered_back (suc (suc n)) l = omega arith

module _ (t : Rules) (needed : ℕ) (ws fs rs : List ℕ) (gs : List Grant) (g : Granted ws fs rs gs needed) (b : BySteps (tree_grammar t) ws fs rs gs) (e : Exact (local_grammar t) fs rs (here ws fs rs gs)) (windows : (tests : Tests) × Tells (tree_grammar t) tests) where
  abbrev now : Run
  now = run_kept (here ws fs rs gs)

  abbrev words : List ℕ
  words = reading_kept (here ws fs rs gs)

  -- the words of the fields, and then those that stood there
  lists : words ≡ listing (recorded words now.captures) rs
  lists =
      subst (λ (w : Whole). reading_of w ≡ words_of (recorded (reading_of w) (head_of w).captures) ++ drop (2 * (head_of w).captures) rs) (sym g.state)
      (reading_is (table_of ws) fs (steps-granted gs) (whole_of rs opened_run) (omega arith, omega arith, omega arith, length-set (replicate max_entries 0) 0 opening ∙ length-replicate {A = ℕ} max_entries 0, length-replicate {A = ℕ} max_entries 0))
      ∙ ap₂ (λ (l : List ℕ) (n : ℕ). l ++ drop (2 * n) rs) (same_words (recorded words now.captures)) (sym (recorded_length words now.captures))

  shown_held : Shown (run_of fs (whole_of words now)) rs (seen_of now words)
  shown_held = (numbered_back now.verdict b.verdict, refl, refl, sym (recorded_length words now.captures), refl, lists)

  truthful : Truthful t fs rs (seen_of now words)
  truthful =
      record {
        match_iff = e.match_iff;
        no_match_iff = e.no_match_iff;
        fields_are = λ z d v h. (let x = e.fields z d v h in (x.0, x.1 ∙ ap (λ (l : List ℕ). l ++ drop (2 * length (captures d 0)) rs) (same_words (captures d 0))));
      }

  pub seeing : Seeing t needed fs rs (steps-granted gs) (seen_of now words)
  seeing =
      record {
        truthful = truthful;
        by_steps = λ tests told. subst (λ (r : HeldRun). Shown r rs (seen_of now words)) (b.made tests told) shown_held;
        lookups = windows;
        counted = g.steps;
        decided_iff = g.decided_iff;
      }
