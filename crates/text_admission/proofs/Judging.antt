-- From refusals 5, 6 and 8 passed to words that pass the judgement's first parts.
-- Assumes nothing.
use Prim.Native.Nat.{ℕ, ◌+◌, ◌≤◌}
use mathlib.Core.Path.{◌≡◌, refl, sym, subst}
use mathlib.Core.Bool.{true}
use mathlib.Core.List.{List}
use native.Mathlib.Omega.{arith}
use lib.ListN.{length}
use Rattle.basis.specs.Limits.{max_text_bytes}
use Rattle.theory.specs.Lookahead.{EmptyBody}
use Rattle.table_layout.specs.Places.{construct_count}
use Rattle.table_wellformed.specs.Laid.{laid}
use Rattle.table_first_follow.specs.Sets.{FirstSets}
use Rattle.table_conflicts.specs.declared.Clash.{Clash}
use Rattle.text_store.specs.Words.{place_of, named_at}
use Rattle.table_judge.specs.Judged.{Passed8, Judged}
use Rattle.table_judge.specs.declared.Fault.{Fault}
use Rattle.std.specs.Prelude.{Ok, Err}
use Rattle.table_fill.specs.Completed.{Completed}
use Rattle.text_store.specs.Store.{State, state, nodes_of}
use Rattle.text_wellformed.specs.Context.{Readable}
use Rattle.text_wellformed.proofs.LaidOut.{words_by_place, laid_out}
use Rattle.text_wellformed.proofs.StoredFacts.{numbers_of}
use Rattle.text_admission.specs.Admitted.{words_of, Bounded}
use Rattle.text_admission.specs.Late.{Marks, Late, LatePass, empty_body, overweight, unreached, no_value, Within}
use Rattle.text_admission.specs.declared.Admission.{Admission}
use Rattle.text_admission.proofs.Facts.{Facts, facts}
use Rattle.text_admission.proofs.Extending.{widths_right, sizes_right}

pub readable : (xs ns ts rs : List ℕ) (n t b r : ℕ) → Bounded xs (state ns ts rs n t b r) → Facts xs (state ns ts rs n t b r) → length xs ≤ max_text_bytes → Readable xs ns ts rs n t b r
readable xs ns ts rs n t b r p f h =
    record {
      rules = f.shape.rules;
      some = f.shape.some;
      node_length = f.shape.node_length;
      term_length = f.shape.term_length;
      rule_length = f.shape.rule_length;
      nodes_limit = f.nodes_limit;
      terms_limit = f.terms_limit;
      binders_limit = f.binders_limit;
      rules_limit = f.rules_limit;
      short = h;
      named = p.passed.passed.none;
      widths = widths_right xs ns ts (words_of xs (state ns ts rs n t b r)) n p.none;
      numbers = numbers_of f.shape.stored f.terms_limit;
    }

pub count_is : (xs : List ℕ) (st : State) → Bounded xs st → length xs ≤ max_text_bytes → construct_count (words_of xs st) ≡ nodes_of st
count_is xs (state ns ts rs n t b r) p h =
    let f = facts xs (state ns ts rs n t b r) p.passed.passed.passed h in
    (words_by_place (readable xs ns ts rs n t b r p f h) f.shape.stored f.basics.places).constructs_are

pub passed_8 : (xs : List ℕ) (st : State) → Bounded xs st → length xs ≤ max_text_bytes → Passed8 (words_of xs st)
passed_8 xs (state ns ts rs n t b r) p h =
    let f = facts xs (state ns ts rs n t b r) p.passed.passed.passed h in
    record {
      passed = record { laid_out = laid_out (readable xs ns ts rs n t b r p f h) f.shape.stored f.basics.places; acyclic = p.passed.none };
      sized = λ i l z. sizes_right xs ns ts (words_of xs (state ns ts rs n t b r)) n p.none i (omega (arith, count_is xs (state ns ts rs n t b r) p h)) z;
    }

-- ---- the judgement's answers

module _ (ns rs old new : List ℕ) (base : ℕ) where
  -- 9 leaves the words as they were
  pub kept : (first : List ℕ) → laid old ≡ true → FirstSets old first → new ≡ old → (laid new ≡ true) × FirstSets new first
  kept first l f e = (subst (λ (ws : List ℕ). laid ws ≡ true) (sym e) l, subst (λ (ws : List ℕ). FirstSets ws first) (sym e) f)

  module _ (i mark : ℕ) (d : Judged old (Err (Fault.EmptyBody i))) (c : new ≡ old) (m : Marks ns new (construct_count new) mark) where
    marked : Marks ns old (construct_count old) mark
    marked = subst (λ (ws : List ℕ). Marks ns ws (construct_count ws) mark) c m

    pub mark_within : Within ns rs → mark ≤ max_text_bytes
    mark_within w = let f = marked.found i d.1.there d.1.holds in omega (arith, f.3, (w.nodes f.0).1)

    pub late_body : (r : Admission) → r ≡ Admission.Refused 9 (base + mark) → Late ns rs base old new r
    late_body r e = subst (Late ns rs base old new) (sym e) (empty_body d.1.there d.1.holds marked refl)

  pub late_conflict : (i : ℕ) (clash : Clash) → Judged old (Err (Fault.Conflict i clash)) → (r : Admission) → r ≡ Admission.Conflict (base + place_of ns i) i clash → Late ns rs base old new r
  late_conflict i clash d r e = subst (Late ns rs base old new) (sym e) (record { passed = d.0; first = d.1; answered = d.2; at = refl })

  pub late_weight : Judged old (Err Fault.Overweight) → (r : Admission) → r ≡ Admission.Refused 11 (base + named_at rs 0) → Late ns rs base old new r
  late_weight d r e = subst (Late ns rs base old new) (sym e) (overweight d.0 d.1 refl)

  pub late_reach : (rule : ℕ) → Judged old (Err (Fault.Unreached rule)) → (r : Admission) → r ≡ Admission.Refused 12 (base + named_at rs rule) → Late ns rs base old new r
  late_reach rule d r e = subst (Late ns rs base old new) (sym e) (unreached d.0 d.1 d.2 refl)

  pub late_value : (i : ℕ) → Judged old (Err (Fault.NoValue i)) → (r : Admission) → r ≡ Admission.Refused 13 (base + place_of ns i) → Late ns rs base old new r
  late_value i d r e = subst (Late ns rs base old new) (sym e) (no_value d.0 d.1 d.2 d.3 refl)

  pub late_pass : (weight : ℕ) → Judged old (Ok weight) → Completed old new (Ok weight) → LatePass weight old new
  late_pass weight d c = record { judged = d.0; weighs = d.1; limited = d.2; reached = d.3; valued = d.4; sound = c.0; same = c.1 }
