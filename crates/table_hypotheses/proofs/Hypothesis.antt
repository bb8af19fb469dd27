-- A sound table meets every hypothesis of the theory.
-- Assumes nothing.
use Prim.Native.Nat.{ℕ, ◌+◌, ◌≤◌, ◌<◌}
use mathlib.Core.Path.{◌≡◌, sym, subst}
use mathlib.Core.Logic.{◌↔◌}
use mathlib.Core.Bool.{true, false}
use mathlib.Core.List.{List}
use lib.ListN.{length}
use Rattle.basis.specs.Bits.{Bits}
use Rattle.basis.specs.Lookahead.{number}
use Rattle.theory.specs.Scope.{Lexical}
use Rattle.theory.specs.Hypotheses.{Hypotheses}
use Rattle.theory.specs.Lookahead.{Predicted, Continues, Follow}
use Rattle.theory.proofs.LocalTheorem.{keeps_counts}
use Rattle.table_layout.specs.Places.{construct_count}
use Rattle.table_layout.specs.Held.{held}
use Rattle.table_structure.proofs.Facts.{Laid, facts}
use Rattle.table_structure.proofs.StaticLaw.{static, width_positive, values_stay}
use Rattle.table_scope.specs.Scope.{store, fresh, scope_of}
use Rattle.table_scope.proofs.LexicalLaw.{lexical}
use Rattle.table_conflicts.proofs.Continuing.{continues_predicted}
use Rattle.run_actions.specs.Stored.{stored, prediction_at, follow_at, tests_of}
use Rattle.table_judge.specs.Sound.{Sound}
use Rattle.table_hypotheses.proofs.StoredSets.{stored_exact}
use Rattle.table_hypotheses.proofs.Placed.{Repeating, repeating, branch_there, body_there}

module _ {ws : List ℕ} (s : Sound ws) where
  pub laid_of_sound : Laid ws
  laid_of_sound = facts ws s.passed.passed.passed.passed.laid_out

  pub lexical_of_sound : Lexical store (scope_of ws) fresh (held ws)
  lexical_of_sound = lexical ws s.passed.passed.passed.passed.laid_out s.passed.passed.passed.passed.acyclic

  -- what a step looks up, of a construct
  predicts : (b : ℕ) → b < construct_count ws → (x : Bits) → length x ≤ 8 → (stored ws (prediction_at b) (number x) ≡ true) ↔ Predicted (held ws) b x
  predicts b h = stored_exact (s.sets b h).prediction

  exits : (i : ℕ) → i < construct_count ws → (x : Bits) → length x ≤ 8 → (stored ws (follow_at i) (number x) ≡ true) ↔ Follow (held ws) i x
  exits i h = stored_exact (s.sets i h).follow

  -- a repetition continues by its body's set
  continues : (i b : ℕ) → Repeating ws i b → b < construct_count ws → (x : Bits) → length x ≤ 8 → (stored ws (prediction_at (i + 1)) (number x) ≡ true) ↔ Continues (held ws) i b x
  continues i b r h x k =
      let p = predicts (i + 1) (subst (λ (n : ℕ). n < construct_count ws) r.next h) x k in
      let c = continues_predicted laid_of_sound i r.size r.how r.there r.is x in
      ((λ e. subst (λ (n : ℕ). Continues (held ws) i n x) (sym r.next) (c.0 (p.0 e))), (λ d. p.1 (c.1 (subst (λ (n : ℕ). Continues (held ws) i n x) r.next d))))

  pub hypotheses_of : Hypotheses (held ws) (tests_of ws)
  hypotheses_of =
      record {
        static = static ws;
        width_positive = λ {i} e. width_positive ws i e;
        no_empty_body = s.passed.passed.no_empty_body;
        no_conflict = λ i x c. s.passed.no_conflict i (x, c);
        body_keeps_counts =
            λ {i} {b} {counts} {static = always} {fixed} {t} {c} {v} {v'} {s = before} {r = after} e d.
            keeps_counts store (scope_of ws) fresh (held ws) (static ws) lexical_of_sound i b counts always fixed t c v v' before after e d;
        values_stay = λ {i} e. values_stay ws i e;
        predicts_exact = λ {i} {b} {is} e m. predicts b (branch_there laid_of_sound i b is e m);
        continues_exact = λ {i} {b} {counts} {static = always} e. continues i b (repeating laid_of_sound i b counts always false e) (body_there laid_of_sound i b counts always false e);
        exits_exact = λ {i} {b} {counts} {static = always} e. exits i (repeating laid_of_sound i b counts always false e).there;
      }
