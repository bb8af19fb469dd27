-- Follow: what is left of the frame after any part of a derivation begins with a string of FOLLOW.
-- Assumes nothing.
use Prim.Native.Nat.{ℕ, suc}
use mathlib.Core.Path.{◌≡◌, refl, sym, ◌∙◌, ap, subst}
use mathlib.Core.Bool.{Bool}
use mathlib.Core.List.{List, [], ◌∷◌, ◌++◌, append_assoc, append_cancel_left}
use Rattle.basis.specs.Bits.{Bits}
use Rattle.basis.specs.Counts.{Counts}
use Rattle.basis.specs.Lookahead.{lookahead, join}
use Rattle.basis.proofs.Joins.{lookahead_append}
use Rattle.theory.specs.Grammar.{Grammar, concatenation, repetition}
use Rattle.theory.specs.Derivation.{Tree, covered, Shape, construct, members, passes, Derives, Leaves}
use Rattle.theory.specs.Lookahead.{Follow, Predicted}
use Rattle.theory.specs.Hypotheses.{Static}
use Rattle.theory.proofs.FirstTheorem.{Known, covers, first}

module _ {Context Values : Type 0} (g : Grammar Context Values) where
  -- x is in the FOLLOW set of a construct, or of the owner of these members or passes
  pub data After : Shape Context Values → Bits → Type 0 where
    of_construct : {i : ℕ} {n : _} {x : Bits} → Follow g i x → After (construct i n) x
    of_members : {i : ℕ} {is : List ℕ} {x : Bits} (before : List ℕ) → g.node i ≡ concatenation (before ++ is) → Follow g i x → After (members is) x
    of_passes : {i b k : ℕ} {counts : Context → Values → Counts} {static : Counts} {fixed : Bool} {x : Bits}
        → g.node i ≡ repetition counts static fixed b → Follow g i x → After (passes b k) x

  -- what follows a derived part is what comes next in what is left with it
  pub next_follows : {what : Shape Context Values} {u : Tree} {c : Context} {v v' : Values} {s r : Bits} → Derives g what u c v s v' r → lookahead s ≡ join (lookahead (covered u)) (lookahead r)
  next_follows {u = u} {r = r} d = ap lookahead (covers g d) ∙ lookahead_append (covered u) r

  -- a tree leaves one rest
  same_rest : {what : Shape Context Values} {t : Tree} {c : Context} {v v' : Values} {s r r' : Bits} → Derives g what t c v s v' r → s ≡ covered t ++ r' → r ≡ r'
  same_rest {t = t} {r = r} {r' = r'} d e = append_cancel_left (covered t) r r' (sym (covers g d) ∙ e)

  left_follows : {what : Shape Context Values} {i : ℕ} {t : Tree} {c : Context} {v v' : Values} {s r : Bits} (r' : Bits)
      → Derives g what t c v s v' r → s ≡ covered t ++ r' → Follow g i (lookahead r) → Follow g i (lookahead r')
  left_follows {i = i} r' d e f = subst (λ (x : Bits). Follow g i (lookahead x)) (same_rest d e) f

  module _ (h : Static g) where
    -- of the first of several members, or passes, and of the others
    pub after_member : {m : ℕ} {is : List ℕ} {u : Tree} {c : Context} {v v' : Values} {s r : Bits}
        → After (members (m ∷ is)) (lookahead r) → Derives g (members is) u c v s v' r → Follow g m (lookahead s)
    after_member {is = is} (After.of_members before q f) ds = Follow.of_member before is q (first g h ds tt) f (next_follows ds)

    pub after_members : {m : ℕ} {is : List ℕ} {x : Bits} → After (members (m ∷ is)) x → After (members is) x
    after_members {m} {is} (After.of_members before q f) = After.of_members (before ++ m ∷ []) (q ∙ ap concatenation (sym (append_assoc before (m ∷ []) is))) f

    pub after_pass : {b k : ℕ} {u : Tree} {c : Context} {v v' : Values} {s r : Bits}
        → After (passes b (suc k)) (lookahead r) → Derives g (passes b k) u c v s v' r → Follow g b (lookahead s)
    after_pass {k = k} (After.of_passes q f) ds = Follow.of_body k q (first g h ds tt) f (next_follows ds)

    pub after_passes : {b k : ℕ} {x : Bits} → After (passes b (suc k)) x → After (passes b k) x
    after_passes (After.of_passes q f) = After.of_passes q f

    -- what comes next before a derived construct is in its prediction set
    pub derived_predicted : {i : ℕ} {t : Tree} {c : Context} {v v' : Values} {s r : Bits}
        → Derives g (construct i (g.node i)) t c v s v' r → Follow g i (lookahead r) → Predicted g i (lookahead s)
    derived_predicted d f = Predicted.predicted (first g h d refl) f (next_follows d)

    pub follow : {what : Shape Context Values} {t : Tree} {c : Context} {v v' : Values} {s r : Bits} → Derives g what t c v s v' r → Known g what → After what (lookahead r)
        → {j : ℕ} {r' : Bits} → Leaves t s j r' → Follow g j (lookahead r')
    unfolding covered
    follow (Derives.of_alternative m d) q (After.of_construct f) (Leaves.below l) = follow d refl (After.of_construct (Follow.of_branch q m f)) l
    follow (Derives.of_alternative m d) q (After.of_construct f) (Leaves.at_node {r = r'} e) = left_follows r' d e f
    follow (Derives.of_concatenation d) q (After.of_construct f) (Leaves.below l) = follow d tt (After.of_members [] q f) l
    follow (Derives.of_concatenation d) q (After.of_construct f) (Leaves.at_node {r = r'} e) = left_follows r' d e f
    follow (Derives.of_repetition k a d) q (After.of_construct f) (Leaves.below l) = follow d tt (After.of_passes q f) l
    follow (Derives.of_repetition k a d) q (After.of_construct f) (Leaves.at_node {r = r'} e) = left_follows r' d e f
    follow (Derives.of_switch {c = c} {v = v} e d) q (After.of_construct f) (Leaves.below l) = follow d refl (After.of_construct (Follow.of_case q (h.chosen_listed q c v e) f)) l
    follow (Derives.of_switch {c = c} {v = v} e d) q (After.of_construct f) (Leaves.at_node {r = r'} e') = left_follows r' d e' f
    follow (Derives.of_no_case e o) q (After.of_construct f) (Leaves.below l) = elim l [ ]
    follow (Derives.of_no_case {i = i} e o) q (After.of_construct f) (Leaves.at_node e') = subst (λ (x : Bits). Follow g i (lookahead x)) e' f
    follow (Derives.of_use e d z) q (After.of_construct f) (Leaves.below l) = follow d refl (After.of_construct (Follow.of_rule q f)) l
    follow (Derives.of_use e d z) q (After.of_construct f) (Leaves.at_node {r = r'} e') = left_follows r' d e' f
    follow (Derives.of_field {r = r} bits l e a z) q (After.of_construct f) (Leaves.at_leaf {r = r'} e') =
        rw (append_cancel_left bits r' r (sym e' ∙ e)) f
    follow Derives.of_eod q (After.of_construct f) Leaves.at_end = f
    follow Derives.no_members q a l = elim l [ ]
    follow (Derives.more_members d ds) q a (Leaves.in_member l) = follow d refl (After.of_construct (after_member a ds)) l
    follow (Derives.more_members d ds) q a (Leaves.past_member {j = j} {u = u} {r = r'} e l) =
        follow ds tt (after_members a) (subst (λ (x : Bits). Leaves u x j r') (sym (same_rest d e)) l)
    follow Derives.no_passes q a l = elim l [ ]
    follow (Derives.more_passes d ds) q a (Leaves.in_pass l) = follow d refl (After.of_construct (after_pass a ds)) l
    follow (Derives.more_passes d ds) q a (Leaves.past_pass {j = j} {u = u} {r = r'} e l) =
        follow ds tt (after_passes a) (subst (λ (x : Bits). Leaves u x j r') (sym (same_rest d e)) l)
