-- What the answers mean for the grammar of well laid out words: refusals 9 and 10.
-- Assumes nothing.
use Prim.Native.Nat.{ℕ, ◌+◌, ◌<◌}
use mathlib.Core.Path.{◌≡◌, refl, sym, subst, ap, ◌∙◌}
use mathlib.Core.Logic.{◌↔◌}
use mathlib.Core.Bool.{Bool, true, false}
use mathlib.Core.List.Memᴰ
use mathlib.Core.List.{List, []}
use native.Mathlib.Omega.{arith}
use Rattle.basis.specs.Limits.{max_constructs}
use Rattle.basis.specs.Bits.{Bits}
use Rattle.basis.specs.Counts.{Counts}
use Rattle.theory.specs.Grammar.{alternative, concatenation, repetition, switch, use_of, field, eod, ◌∈◌}
use Rattle.theory.specs.Derivation.{construct}
use Rattle.theory.specs.Lookahead.{First, Follow, Predicted, Continues, Conflict, EmptyBody}
use Rattle.table_layout.specs.Places.{construct_count}
use Rattle.table_layout.specs.Constructs.{construct_at}
use Rattle.table_layout.specs.Held.{Context, Values, HeldNode, held, node_of, passes_allowed, passes_static, passes_fixed}
use Rattle.table_layout.specs.declared.Construct.{Construct}
use Rattle.table_layout.specs.declared.Passes.{Passes}
use Rattle.table_structure.proofs.Facts.{Laid}
use Rattle.table_first_follow.specs.Rules.{Family}
use Rattle.table_first_follow.specs.Rounds.{strings}
use Rattle.table_first_follow.specs.Parts.{siblings}
use Rattle.table_first_follow.specs.Sets.{FirstSets, FollowSets, PredictionSets}
use Rattle.table_first_follow.proofs.PartLaws.{parts_siblings}
use Rattle.table_layout.proofs.Bounds.{Fine, fine}
use Rattle.table_layout.proofs.Views.{Parted, parted, leaf_node}
use Rattle.table_first_follow.proofs.HeldLaws.{node_inside}
use Rattle.table_conflicts.specs.Windows.{Lowest, Shared}
use Rattle.table_conflicts.specs.Clashes.{Common, Branching, Turning, Repeating, NoClash, ClashOf, EmptyAt}
use Rattle.table_conflicts.specs.Conflicts.{FirstHolders, Conflicting, LeastWindow, Answered}
use Rattle.table_conflicts.specs.declared.Clash.{Clash}
use Rattle.table_conflicts.proofs.Walks.{lies}
use Rattle.table_conflicts.proofs.Lows.{lowest_map}
use Rattle.table_conflicts.proofs.Continuing.{continues_predicted, node_is}

-- ---- what a conflict is, by the node

module _ (ws : List ℕ) where
  -- the strings of a conflict of node n, which is construct i's
  abbrev ConflictBy : ℕ → HeldNode → Bits → Type 0
  ConflictBy i (alternative is) x = Shared (Predicted (held ws)) is x
  ConflictBy i (concatenation is) x = ⊥
  ConflictBy i (repetition counts static true b) x = ⊥
  ConflictBy i (repetition counts static false b) x = Continues (held ws) i b x × Follow (held ws) i x
  ConflictBy i (switch chosen optional is) x = ⊥
  ConflictBy i (use_of enters opens closes b) x = ⊥
  ConflictBy i (field w admits static binds) x = ⊥
  ConflictBy i eod x = ⊥

  by_node : (i : ℕ) (x : Bits) → Conflict (held ws) i x → ConflictBy i ((held ws).node i) x
  by_node i x (Conflict.of_branches {a = a} {b = b} e ma mb d p q) =
      rw e (record { one = a; other = b; one_listed = ma; other_listed = mb; apart = d; one_has = p; other_has = q })
  by_node i x (Conflict.of_passes e c q) = rw e (c, q)

  of_node : (i : ℕ) (x : Bits) (n : HeldNode) → (held ws).node i ≡ n → ConflictBy i n x → Conflict (held ws) i x
  of_node i x (alternative is) e s = Conflict.of_branches e s.one_listed s.other_listed s.apart s.one_has s.other_has
  of_node i x (concatenation is) e z = absurd z
  of_node i x (repetition counts static true b) e z = absurd z
  of_node i x (repetition counts static false b) e (c, q) = Conflict.of_passes e c q
  of_node i x (switch chosen optional is) e z = absurd z
  of_node i x (use_of enters opens closes b) e z = absurd z
  of_node i x (field w admits static binds) e z = absurd z
  of_node i x eod e z = absurd z

  pub conflict_iff : (i : ℕ) (n : HeldNode) → (held ws).node i ≡ n → (x : Bits) → ConflictBy i n x ↔ Conflict (held ws) i x
  conflict_iff i n e x = (of_node i x n e, λ c. subst (λ (m : HeldNode). ConflictBy i m x) e (by_node i x c))

-- ---- answers

shared_map : (F G : Family) (is : List ℕ) → ((k : ℕ) → k ∈ is → (x : Bits) → F k x → G k x) → (x : Bits) → Shared F is x → Shared G is x
shared_map F G is f x s =
    record {
      one = s.one;
      other = s.other;
      one_listed = s.one_listed;
      other_listed = s.other_listed;
      apart = s.apart;
      one_has = f s.one s.one_listed x s.one_has;
      other_has = f s.other s.other_listed x s.other_has;
    }

holders_map : (F G : Family) (is : List ℕ) → ((k : ℕ) → k ∈ is → (x : Bits) → F k x ↔ G k x) → (n first second : ℕ) → FirstHolders F is n first second → FirstHolders G is n first second
holders_map F G is f n first second h =
    record {
      first_listed = h.first_listed;
      second_listed = h.second_listed;
      in_order = h.in_order;
      first_has = let s = h.first_has in (s.0, s.1, (f first h.first_listed s.0).0 s.2);
      second_has = let s = h.second_has in (s.0, s.1, (f second h.second_listed s.0).0 s.2);
      others = λ j m s. h.others j m (s.0, s.1, (f j m s.0).1 s.2);
    }

module _ (ws : List ℕ) (i : ℕ) where
  none_by : (n : HeldNode) → (held ws).node i ≡ n → ((x : Bits) → ConflictBy ws i n x → ⊥) → Conflicting ws i → ⊥
  none_by n e f (x, c) = f x ((conflict_iff ws i n e x).1 c)

  -- the least string of the node's conflicts
  least_by : (n : HeldNode) → (held ws).node i ≡ n → (w : ℕ) → 0 < w → Lowest (ConflictBy ws i n) w → LeastWindow ws i w
  least_by n e w p l =
      let s = l.some p in
      (s.0, s.1, record { common = (conflict_iff ws i n e s.0).0 s.2; least = λ y c. let m = l.least y ((conflict_iff ws i n e y).1 c) in omega (arith, m, s.1) })

  quiet : (n : HeldNode) → (held ws).node i ≡ n → ((x : Bits) → ConflictBy ws i n x → ⊥) → (r : Clash) → NoClash r → Answered ws i r
  quiet n e f Clash.None h = none_by n e f
  quiet n e f (Clash.Branches window first second) h = absurd h
  quiet n e f (Clash.Passes window) h = absurd h

  branching : (F : Family) (is : List ℕ) → (held ws).node i ≡ alternative is → ((k : ℕ) → k ∈ is → (x : Bits) → F k x ↔ Predicted (held ws) k x) → (r : Clash) → Branching F is r → Answered ws i r
  branching F is e f Clash.None h = none_by (alternative is) e (λ x s. h x (shared_map (Predicted (held ws)) F is (λ k m y p. (f k m y).1 p) x s))
  branching F is e f (Clash.Branches window first second) (p, l, h) = (
    least_by (alternative is) e window p
        (lowest_map (Shared F is) (Shared (Predicted (held ws)) is) window (λ x. (shared_map F (Predicted (held ws)) is (λ k m y q. (f k m y).0 q) x, shared_map (Predicted (held ws)) F is (λ k m y q. (f k m y).1 q) x)) l),
    record { branches = is; node = e; holders = holders_map F (Predicted (held ws)) is f window first second h },
  )
  branching F is e f (Clash.Passes window) h = absurd h

  module _ {counts : Context → Values → Counts} {static : Counts} (b : ℕ) (e : (held ws).node i ≡ repetition counts static false b) (A B : Bits → Type 0)
      (f : (x : Bits) → Common A B x ↔ (Continues (held ws) i b x × Follow (held ws) i x)) where
    turning : (r : Clash) → Turning A B r → Answered ws i r
    turning Clash.None h = none_by _ e (λ x c. h x ((f x).1 c))
    turning (Clash.Branches window first second) h = absurd h
    turning (Clash.Passes window) (p, l) = (
      least_by _ e window p (lowest_map (Common A B) (λ (x : Bits). Continues (held ws) i b x × Follow (held ws) i x) window f l),
      λ is q. let z = sym q ∙ e in let y : ◌≡◌ {A = ℕ} 0 1 = cc in omega arith,
    )

module _ {ws : List ℕ} (l : Laid ws) (i : ℕ) (h : i < construct_count ws) where
  small : i < max_constructs
  small = omega (arith, l.counts.constructs)

  node_by : (c : Construct) → construct_at ws i ≡ c → (held ws).node i ≡ node_of ws i c
  node_by c e = node_inside ws i small ∙ ap (node_of ws i) e

  module _ (follow prediction : List ℕ) (fs : FollowSets ws follow) (ps : PredictionSets ws prediction) where
    alternatives : (size : ℕ) → construct_at ws i ≡ Construct.Alternative size → (r : Clash) → Branching (strings prediction) (siblings ws (i + 1) (i + size)) r → Answered ws i r
    unfolding node_of
    alternatives size e r b =
        let room = subst (Fine i) e (fine ws i) in
        branching ws i (strings prediction) (siblings ws (i + 1) (i + size)) (node_by (Construct.Alternative size) e ∙ ap alternative (parts_siblings ws i size))
        (λ k m x. (ps k (omega (arith, (lies ws (i + size) (i + 1) k m).1, room.1))).strings x) r b

    repetitions : (size : ℕ) (how : Passes) → construct_at ws i ≡ Construct.Repetition size how → (fixed : Bool) → passes_fixed ws how ≡ fixed → (r : Clash)
        → Repeating fixed (strings prediction (i + 1)) (strings follow i) r → Answered ws i r
    repetitions size how e true f r b =
        quiet ws i (repetition (λ c v. passes_allowed ws how v) (passes_static ws how) true (i + 1)) (node_is l i size how h e ∙ ap (λ (z : Bool). repetition (λ c v. passes_allowed ws how v) (passes_static ws how) z (i + 1)) f) (λ x z. z) r b
    repetitions size how e false f r b =
        turning ws i (i + 1) (node_is l i size how h e ∙ ap (λ (z : Bool). repetition (λ c v. passes_allowed ws how v) (passes_static ws how) z (i + 1)) f) (strings prediction (i + 1)) (strings follow i)
        (λ x. (
          λ p. ((continues_predicted l i size how h e x).0 (((ps (i + 1) (omega (arith, small))).strings x).0 p.0), ((fs i (omega (arith, small))).strings x).0 p.1),
          λ p. (((ps (i + 1) (omega (arith, small))).strings x).1 ((continues_predicted l i size how h e x).1 p.0), ((fs i (omega (arith, small))).strings x).1 p.1),
        )) r b

    answered_by : {c : Construct} → Parted c → construct_at ws i ≡ c → (r : Clash) → ClashOf ws (strings follow) (strings prediction) i c r → Answered ws i r
    unfolding node_of
    answered_by Parted.missing e r b = quiet ws i (alternative []) (node_by Construct.Missing e) (λ x s. Memᴰ.not-nil s.one_listed) r b
    answered_by (Parted.branches size) e r b = alternatives size e r b
    answered_by (Parted.members size) e r b = quiet ws i _ (node_by (Construct.Concatenation size) e) (λ x z. z) r b
    answered_by (Parted.body size how) e r b = repetitions size how e (passes_fixed ws how) refl r b
    answered_by (Parted.cases size) e r b = quiet ws i _ (node_by (Construct.Switch size) e) (λ x z. z) r b
    answered_by (Parted.opens rule) e r b = quiet ws i _ (node_by (Construct.Use rule) e) (λ x z. z) r b
    answered_by {c} (Parted.leaf f) e r b =
        quiet ws i (node_of ws i c) (node_by c e) (leaf_node ws i (λ n. (x : Bits) → ConflictBy ws i n x → ⊥) (λ w admits static binds x z. z) (λ x z. z) c f) r (rw f.below at b)

    -- refusal 10: what `conflict` answers is the construct's conflict
    pub answered : (r : Clash) → ClashOf ws (strings follow) (strings prediction) i (construct_at ws i) r → Answered ws i r
    answered r b = answered_by (parted (construct_at ws i)) refl r b

-- ---- refusal 9

module _ (ws : List ℕ) (first : List ℕ) (fs : FirstSets ws first) (i : ℕ) (h : i < max_constructs) where
  abbrev EmptyBy : HeldNode → Type 0
  EmptyBy (alternative is) = ⊥
  EmptyBy (concatenation is) = ⊥
  EmptyBy (repetition counts static fixed b) = First (held ws) (construct b ((held ws).node b)) []
  EmptyBy (switch chosen optional is) = ⊥
  EmptyBy (use_of enters opens closes b) = ⊥
  EmptyBy (field w admits static binds) = ⊥
  EmptyBy eod = ⊥

  by_empty : EmptyBody (held ws) i → EmptyBy ((held ws).node i)
  by_empty (EmptyBody.empty_body e f) = rw e f

  empty_node : (c : Construct) → construct_at ws i ≡ c → EmptyBody (held ws) i → EmptyBy (node_of ws i c)
  empty_node c e b = subst EmptyBy (node_inside ws i h ∙ ap (node_of ws i) e) (by_empty b)

  empty_by : {c : Construct} → Parted c → construct_at ws i ≡ c → EmptyAt (strings first) i c ↔ EmptyBody (held ws) i
  unfolding node_of
  empty_by Parted.missing e = ((λ z. absurd z), empty_node Construct.Missing e)
  empty_by (Parted.branches size) e = ((λ z. absurd z), empty_node (Construct.Alternative size) e)
  empty_by (Parted.members size) e = ((λ z. absurd z), empty_node (Construct.Concatenation size) e)
  empty_by (Parted.body size how) e = (
    λ s. EmptyBody.empty_body (node_inside ws i h ∙ ap (node_of ws i) e) (((fs (i + 1) (omega arith)).strings []).0 s),
    λ b. ((fs (i + 1) (omega arith)).strings []).1 (empty_node (Construct.Repetition size how) e b),
  )
  empty_by (Parted.cases size) e = ((λ z. absurd z), empty_node (Construct.Switch size) e)
  empty_by (Parted.opens rule) e = ((λ z. absurd z), empty_node (Construct.Use rule) e)
  empty_by {c} (Parted.leaf f) e =
      rw f.below ((λ z. absurd z), λ b. leaf_node ws i (λ n. EmptyBy n → ⊥) (λ w admits static binds z. z) (λ z. z) c f (empty_node c e b))

  pub empty_iff : EmptyAt (strings first) i (construct_at ws i) ↔ EmptyBody (held ws) i
  empty_iff = empty_by (parted (construct_at ws i)) refl
