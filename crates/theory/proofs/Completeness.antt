-- A derivation is what the machine does, in exactly the tree's number of steps.
-- Assumes nothing.
use Prim.Native.Nat.{ℕ, suc, ◌+◌}
use native.Mathlib.Omega.{arith}
use native.Mathlib.Decide.{ℕ_discrete}
use native.Mathlib.Nat.{add-zero, zero-add}
use borrow.Author.Tests.{le-leb}
use mathlib.Core.Path.{◌≡◌, refl, sym, ◌∙◌, ap, subst, subst₂}
use mathlib.Core.Logic.{inl, inr}
use mathlib.Core.Bool.{Bool, true, false}
use mathlib.Core.List.Memᴰ
use mathlib.Core.List.{List, [], ◌∷◌, ◌++◌}
use mathlib.Core.Option.{some}
use lib.ListN.{length, take, drop, length-append}
use lib.Seq.{take_at, drop_at}
use lib.Dec.{leb}
use Rattle.basis.specs.Bits.{Bits}
use Rattle.basis.specs.Counts.{Counts, Allows}
use Rattle.basis.specs.Lookahead.{lookahead}
use Rattle.basis.proofs.Joins.{lookahead_length}
use Rattle.basis.proofs.Booleans.{which}
use Rattle.theory.specs.Grammar.{Node, alternative, repetition, Grammar, ◌∈◌}
use Rattle.theory.specs.Derivation.{Tree, covered, Capture, captures, Shape, construct, members, passes, Derives}
use Rattle.theory.specs.Lookahead.{Follow, Predicted, Continues, Conflict}
use Rattle.theory.specs.Machine.{Tests, Entry, entry, state, again, leave, turn, choose, entries, tree_steps}
use Rattle.theory.specs.Hypotheses.{Hypotheses}
use Rattle.theory.proofs.FieldWidths.{derived_width}
use Rattle.theory.proofs.FirstTheorem.{first}
use Rattle.theory.proofs.FollowTheorem.{After, next_follows, after_member, after_members, after_pass, derived_predicted}
use Rattle.theory.proofs.Turns.{turn_again, turn_leave}
use Rattle.theory.proofs.Steps as Steps
use Rattle.theory.proofs.Steps.{one_step, Path, resize, arrive, then, after, after_both, after_none}

pub not_both : {b : Bool} → b ≡ true → b ≡ false → ⊥
not_both p q = let z : ◌≡◌ {A = ℕ} 0 1 = cc in omega arith

-- the one branch of a list that passes a test is the one chosen
pub chooses : (holds : ℕ → Bool) {b : ℕ} {is : List ℕ} → b ∈ is → holds b ≡ true → ((a : ℕ) → a ∈ is → holds a ≡ true → a ≡ b) → choose holds is ≡ some b
unfolding choose
chooses holds {is = []} m t only = elim m [ ]
chooses holds {b = b} {is = a ∷ is} (Memᴰ.head e) t only = let z : holds a ≡ true = ap holds (sym e) ∙ t in rw (z, choose) (ap some (sym e))
chooses holds {b = b} {is = a ∷ is} (Memᴰ.tail m) t only =
    elim (which (holds a))
    [ inl z ↦ rw (z, choose) (ap some (only a (Memᴰ.head refl) z)) | inr z ↦ rw (z, choose) (chooses holds m t (λ a' m'. only a' (Memᴰ.tail m'))) ]

module _ {Context Values : Type 0} (g : Grammar Context Values) (tests : Tests) (h : Hypotheses g tests) where
  -- What is pending for a shape that is derived in context c from values v and followed by x: the construct; the members; or the
  -- repetition, with j passes begun, whose further passes they are.
  pub data Todo (c : Context) (v : Values) (x : Bits) : Shape Context Values → Type 0 where
    one : {i : ℕ} {n : Node Context Values} → g.node i ≡ n → Follow g i x → Todo c v x (construct i n)
    several : {is : List ℕ} → After g (members is) x → Todo c v x (members is)
    repeated : {i b k : ℕ} {counts : Context → Values → Counts} {static : Counts} {fixed : Bool} (j : ℕ)
        → g.node i ≡ repetition counts static fixed b → Allows (counts c v) (j + k) → Follow g i x → Todo c v x (passes b k)

  abbrev pub pending : {c : Context} {v : Values} {x : Bits} {what : Shape Context Values} → Todo c v x what → List (Entry Context)
  pending {c} (Todo.one {i} q f) = entry i c 0 ∷ []
  pending {c} (Todo.several {is} a) = entries c is
  pending {c} (Todo.repeated {i} j q a f) = entry i c j ∷ []

  -- the step by which a repetition leaves is its node's
  abbrev pub extra : {c : Context} {v : Values} {x : Bits} {what : Shape Context Values} → Todo c v x what → ℕ
  extra (Todo.one q f) = 0
  extra (Todo.several a) = 0
  extra (Todo.repeated j q a f) = 1

  -- the branch of a derivation is the one whose prediction set holds what comes next
  branch_chosen : {i b : ℕ} {is : List ℕ} {t : Tree} {c : Context} {v v' : Values} {s r : Bits} → g.node i ≡ alternative is → (m : b ∈ is)
      → Derives g (construct b (g.node b)) t c v s v' r → Follow g i (lookahead r) → choose (λ a. tests.predicts a (lookahead s)) is ≡ some b
  branch_chosen {i} {b} {is} {s = s} q m d f =
      let x = lookahead s in
      let l = lookahead_length s in
      let here : Predicted g b x = derived_predicted g h.static d (Follow.of_branch q m f) in
      chooses (λ a. tests.predicts a x) m ((h.predicts_exact q m x l).1 here)
      (λ a m' t.
      elim (ℕ_discrete a b)
      [ yes e ↦ e | no n ↦ absurd (h.no_conflict i x (Conflict.of_branches q m' m n ((h.predicts_exact q m' x l).0 t) here)) ])

  -- a repetition whose derivation has more passes begins another, and one whose derivation has none left leaves
  again_turn : {i b k : ℕ} {counts : Context → Values → Counts} {static : Counts} (fixed : Bool) {t : Tree} {c : Context} {v v' : Values} {s r : Bits} (j : ℕ)
      → g.node i ≡ repetition counts static fixed b → Allows (counts c v) (j + suc k) → Derives g (passes b (suc k)) t c v s v' r → Follow g i (lookahead r)
      → turn (counts c v) j (tests.continues i (lookahead s)) (tests.exits i (lookahead s)) ≡ again
  again_turn {k = k} {counts} true {c = c} {v = v} {s = s} j q a d f =
      turn_again (counts c v) j k _ _ a (inr (λ a₀. let z = h.static.fixed_once q c v j (j + suc k) a₀ a in omega arith))
  again_turn {k = k} {counts} false {c = c} {v = v} {s = s} j q a d f =
      turn_again (counts c v) j k _ _ a
      (inl ((h.continues_exact q (lookahead s) (lookahead_length s)).1 (Continues.continues k (first g h.static d tt) f (next_follows g d))))

  leave_turn : {i b : ℕ} {counts : Context → Values → Counts} {static : Counts} (fixed : Bool) (c : Context) (v : Values) (s : Bits) (j : ℕ)
      → g.node i ≡ repetition counts static fixed b → Allows (counts c v) j → Follow g i (lookahead s)
      → turn (counts c v) j (tests.continues i (lookahead s)) (tests.exits i (lookahead s)) ≡ leave
  leave_turn {counts = counts} true c v s j q a f =
      turn_leave (counts c v) j _ _ a (inr (λ a₁. let z = h.static.fixed_once q c v j (suc j) a a₁ in omega arith))
  leave_turn {i} {counts = counts} false c v s j q a f =
      let x = lookahead s in
      let l = lookahead_length s in
      turn_leave (counts c v) j _ _ a
      (inl (
        elim (which (tests.continues i x))
            [ inl t ↦ absurd (h.no_conflict i x (Conflict.of_passes q ((h.continues_exact q x l).0 t) f)) | inr t ↦ t ],
        (h.exits_exact q x l).1 f,
      ))

  suc_over : (j k : ℕ) → j + suc k ≡ suc j + k
  suc_over j k = omega arith

  -- the machine does what a derivation says
  pub follows_derivation : {what : Shape Context Values} {t : Tree} {c : Context} {v v' : Values} {s r : Bits} → Derives g what t c v s v' r → (todo : Todo c v (lookahead r) what)
      → (others : List (Entry Context)) (p : ℕ) (cs : List Capture)
      → Path g tests (λ σ. Unit {0}) (extra todo + tree_steps t) (state (pending todo ++ others) s p v cs) (after others t p r v' cs)
  unfolding covered captures tree_steps
  follows_derivation (Derives.of_alternative m d) (Todo.one q f) others p cs =
      resize g tests (omega arith) (Path.next tt (Steps.step_alternative g tests q (branch_chosen q m d f)) (follows_derivation d (Todo.one refl (Follow.of_branch q m f)) others p cs))
  follows_derivation (Derives.of_concatenation d) (Todo.one q f) others p cs =
      resize g tests (omega arith) (Path.next tt (Steps.step_concatenation g tests q) (follows_derivation d (Todo.several (After.of_members [] q f)) others p cs))
  follows_derivation (Derives.of_repetition {counts = counts} {c = c} {v = v} k a d) (Todo.one q f) others p cs =
      resize g tests (omega arith) (follows_derivation d (Todo.repeated 0 q (subst (Allows (counts c v)) (sym (zero-add k)) a) f) others p cs)
  follows_derivation (Derives.of_switch {c = c} {v = v} e d) (Todo.one q f) others p cs =
      resize g tests (omega arith)
      (Path.next tt (Steps.step_switch g tests q e) (follows_derivation d (Todo.one refl (Follow.of_case q (h.static.chosen_listed q c v e) f)) others p cs))
  follows_derivation {v = v} {s = s} (Derives.of_no_case e o) (Todo.one q f) others p cs =
      arrive g tests (after_none others p s v cs) (one_step g tests tt (Steps.step_no_case g tests q e o))
  follows_derivation (Derives.of_use {i} {t = t} {v = v} {v' = v'} {r = r} e d z) (Todo.one q f) others p cs =
      resize g tests (omega arith)
      (arrive g tests (ap (λ (x : Values). after others t p r x cs) (sym (z ∙ h.values_stay q v v')))
      (Path.next tt (Steps.step_use g tests q e) (follows_derivation d (Todo.one refl (Follow.of_rule q f)) others p cs)))
  follows_derivation (Derives.of_field {i} {w} {admits} {binds = binds} {c = c} {v = v} {s = s} {r = r} bits l e a z) (Todo.one q f) others p cs =
      let l : length bits ≡ w s = derived_width g h.static q bits r l e in
      let front : take (w s) s ≡ bits = ap (take (w s)) e ∙ take_at bits r (w s) l in
      let back : drop (w s) s ≡ r = ap (drop (w s)) e ∙ drop_at bits r (w s) l in
      let long : leb (w s) (length s) ≡ true = le-leb (w s) (length s) (omega (arith, l, ap length e, length-append bits r)) in
      resize g tests (omega arith)
      (arrive g tests (rw (back, front, z, l))
      (Path.next tt (Steps.step_field g tests q long (ap (admits c v) front ∙ a)) Path.here))
  follows_derivation Derives.of_eod (Todo.one q f) others p cs = arrive g tests (after_none others p [] _ cs) (resize g tests (omega arith) (Path.next tt (Steps.step_eod g tests q) Path.here))
  follows_derivation Derives.no_members (Todo.several a) others p cs = arrive g tests (after_none others p _ _ cs) (resize g tests (omega arith) Path.here)
  follows_derivation (Derives.more_members {is = is} {t} {u} {c = c} {v'' = v''} {s'' = r} d ds) (Todo.several a) others p cs =
      resize g tests (omega arith)
      (arrive g tests (after_both others p r v'' cs t u _ _ refl refl)
      (then g tests (follows_derivation d (Todo.one refl (after_member g h.static a ds)) (entries c is ++ others) p cs)
      (follows_derivation ds (Todo.several (after_members g h.static a)) others (p + length (covered t)) (cs ++ captures t p))))
  follows_derivation (Derives.no_passes {c = c} {v = v} {s = s}) (Todo.repeated {counts = counts} {fixed = fixed} j q a f) others p cs =
      arrive g tests (after_none others p s v cs)
      (resize g tests (omega arith) (Path.next tt (Steps.step_leave g tests q (leave_turn fixed c v s j q (subst (Allows (counts c v)) (add-zero j) a) f)) Path.here))
  follows_derivation (Derives.more_passes {k = k} {t} {u} {c} {v'' = v''} {s'' = r} d ds) (Todo.repeated {i} {counts = counts} {fixed = fixed} j q a f) others p cs =
      resize g tests (omega arith)
      (arrive g tests (after_both others p r v'' cs t u _ _ refl refl)
      (Path.next tt (Steps.step_again g tests q (again_turn fixed j q a (Derives.more_passes d ds) f))
      (then g tests (follows_derivation d (Todo.one refl (after_pass g h.static (After.of_passes q f) ds)) (entry i c (suc j) ∷ others) p cs)
      (follows_derivation ds (Todo.repeated (suc j) q (subst₂ Allows (sym (h.body_keeps_counts q d)) (suc_over j k) a) f) others (p + length (covered t)) (cs ++ captures t p)))))
