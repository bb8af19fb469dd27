-- The rules of FOLLOW, node by node: what a construct may hand on, and that its parts then have it.
-- Assumes nothing.
use Prim.Native.Nat.{ℕ, ◌+◌, ◌<◌}
use mathlib.Core.Path.{◌≡◌, refl, sym, ap, ◌∙◌, subst}
use mathlib.Core.Bool.{Bool, true, false}
use mathlib.Core.Logic.{inl, inr}
use mathlib.Core.List.Memᴰ
use mathlib.Core.List.{List, [], ◌∷◌, ◌++◌, append_assoc}
use native.Mathlib.Omega.{arith}
use lib.ListN.{length}
use Rattle.basis.specs.Bits.{Bits}
use Rattle.basis.specs.Counts.{from}
use Rattle.basis.specs.Lookahead.{join}
use Rattle.lookahead.specs.Sets.{Has, Is, Joined, Passes, Repeated}
use Rattle.lookahead.proofs.LanguageLaws.{Strings}
use Rattle.table_layout.specs.Places.{rule_word}
use Rattle.table_layout.specs.Constructs.{construct_at}
use Rattle.table_layout.specs.Attributes.{attributes_of}
use Rattle.table_layout.specs.Held.{opening, held, node_of}
use Rattle.table_layout.specs.declared.Construct.{Construct}
use Rattle.table_layout.specs.declared.Below.{Below}
use Rattle.table_layout.specs.declared.Attributes.{Attributes}
use Rattle.table_layout.specs.declared.Passes as Times
use Rattle.table_layout.proofs.Views.{Is as Is-by, is_by, quiet_node}
use Rattle.theory.specs.Grammar.{alternative, concatenation, use_of, ◌∈◌}
use Rattle.theory.specs.Lookahead.{Follow}
use Rattle.theory.proofs.Inversion.{Keeps, MembersKeep}
use Rattle.table_first_follow.specs.Rules.{Family}
use Rattle.table_first_follow.specs.Rounds.{strings, Between, within, first_of, follow_of, follow_low, FollowStep, FollowClosed}
use Rattle.table_first_follow.specs.Parts.{siblings}
use Rattle.table_first_follow.specs.Follows.{Given, Handed}
use Rattle.table_first_follow.specs.Sets.{sets_held, family_words, FirstSets}
use Rattle.table_first_follow.proofs.HeldLaws.{node_inside, node_opening}
use Rattle.table_first_follow.proofs.PartLaws.{parts_siblings}
use Rattle.table_first_follow.proofs.RuleLaws.{members_first, passes_first, first_members, first_passes}
use Rattle.table_first_follow.proofs.RoundLaws.{no_step, step_map}
use Rattle.table_first_follow.proofs.AppliedLaws.{passes_map}
use Rattle.table_first_follow.proofs.FollowLaws.{first_any, given_step}

-- ---- branches: each has the same

pub branches_handed : (F : Family) (A : Strings) (H : Family) (is : List ℕ) → ((b : ℕ) → b ∈ is → (x : Bits) → A x → H b x) → Handed false F A H is
branches_handed F A H [] f = tt
branches_handed F A H (m ∷ is) f = (f m (Memᴰ.head refl), branches_handed F A H is (λ b l. f b (Memᴰ.tail l)))

pub handed_branch : (F : Family) (A : Strings) (H : Family) (is : List ℕ) → Handed false F A H is → (b : ℕ) → b ∈ is → (x : Bits) → A x → H b x
handed_branch F A H [] h b l x a = absurd (Memᴰ.not-nil l)
handed_branch F A H (m ∷ is) h b l x a = elim (Memᴰ.cases_cons l) [
  | inl e ↦ subst (λ (k : ℕ). H k x) (sym e) (h.0 x a)
  | inr t ↦ handed_branch F A H is h.1 b t x a
]

module _ (ws first old : List ℕ) (l : length first ≡ family_words) (f : FirstSets ws first) (b : Between (follow_low ws) (follow_of ws) old)
    (i : ℕ) (h : i < sets_held) (set : List ℕ) (s : Is set (strings old i)) where
  abbrev F : Family
  F = first_of ws

  follows : (x : Bits) → Has set x → Follow (held ws) i x
  follows x a = b.only i x ((s.strings x).0 a)

  module _ (new : List ℕ) (r : Bool) where
    abbrev Pushed : Type 0
    Pushed = FollowStep ws (FollowClosed ws i) old new r

    -- where nothing grew, the set is still what the family has
    closing : (C : List ℕ → Type 0) → FollowStep ws C old new r → (C new → ((x : Bits) → within new i x → Has set x) → Keeps (held ws) (within new) i ((held ws).node i)) → Pushed
    closing C t k =
        record {
          keeps = t.keeps;
          grows = t.grows;
          kept = t.kept;
          closed = λ e. k (t.closed e) (λ x w. (s.strings x).1 (subst (λ (words : List ℕ). strings words i x) (t.kept e) (w h)));
        }

    -- ---- rule uses

    use_pushed : (enters : _) (opens : _) (closes : _) (body c : ℕ) → (held ws).node i ≡ use_of enters opens closes body → c ≡ body → Given old new c set r → Pushed
    use_pushed enters opens closes body c e q v =
        closing (λ words. (x : Bits) → Has set x → within words c x)
        (given_step (follow_low ws) (follow_of ws) old new c set r v s.proper (λ x a. subst (λ (k : ℕ). Follow (held ws) k x) (sym q) (Follow.of_rule e (follows x a))))
        (λ d w. subst (Keeps (held ws) (within new) i) (sym e) (λ x y. subst (λ (k : ℕ). within new k x) q (d x (w x y))))

  -- ---- members

  members_owed : (before is : List ℕ) → (held ws).node i ≡ concatenation (before ++ is) → Handed true F (Has set) (follow_of ws) is
  members_owed before [] e = tt
  members_owed before (m ∷ is) e = (
    (λ x j. Follow.of_member before is e (members_first (held ws) F (λ k y q. q) is j.left j.in_left) (follows j.right j.in_right) j.whole),
    members_owed (before ++ (m ∷ [])) is (e ∙ ap concatenation (sym (append_assoc before (m ∷ []) is))),
  )

  members_keep : (new : List ℕ) → ((x : Bits) → within new i x → Has set x) → (is : List ℕ) → Handed true F (Has set) (within new) is → MembersKeep (held ws) (within new) i is
  members_keep new w [] d = tt
  members_keep new w (m ∷ is) d = (
    (λ x y p q. d.0 (join x y) (record { left = x; right = y; in_left = first_members (held ws) is x p; in_right = w y q; whole = refl })),
    members_keep new w is d.1,
  )

  -- ---- a construct inside the table

  module _ (g : i < 256) (o : Attributes) (eo : o ≡ attributes_of (construct_at ws i)) where
    node_as : (c : Construct) → construct_at ws i ≡ c → (held ws).node i ≡ node_of ws i c
    node_as c p = node_inside ws i g ∙ ap (node_of ws i) p

    -- from what stands below it
    known : (b : Below) → o.below ≡ b → Is-by (construct_at ws i) o b
    known b p = is_by (construct_at ws i) o eo b p

    abbrev is : List ℕ
    is = siblings ws (i + 1) (i + o.size)

    alternative_node : o.below ≡ Below.Branches → (held ws).node i ≡ alternative is
    unfolding node_of
    alternative_node p = node_as (Construct.Alternative o.size) (known Below.Branches p) ∙ ap alternative (parts_siblings ws i o.size)

    concatenation_node : o.below ≡ Below.Members → (held ws).node i ≡ concatenation is
    unfolding node_of
    concatenation_node p = node_as (Construct.Concatenation o.size) (known Below.Members p) ∙ ap concatenation (parts_siblings ws i o.size)

    pub alternative_owed : o.below ≡ Below.Branches → Handed false F (Has set) (follow_of ws) is
    alternative_owed p = branches_handed F (Has set) (follow_of ws) is (λ c m x a. Follow.of_branch (alternative_node p) m (follows x a))

    pub switch_owed : o.below ≡ Below.Cases → Handed false F (Has set) (follow_of ws) is
    unfolding node_of
    switch_owed p = subst (Handed false F (Has set) (follow_of ws)) (parts_siblings ws i o.size)
        (branches_handed F (Has set) (follow_of ws) _ (λ c m x a. Follow.of_case (node_as (Construct.Switch o.size) (known Below.Cases p)) m (follows x a)))

    pub concatenation_owed : o.below ≡ Below.Members → Handed true F (Has set) (follow_of ws) is
    concatenation_owed p = members_owed [] is (concatenation_node p)

    module _ (new : List ℕ) (r : Bool) where
      pub alternative_pushed : o.below ≡ Below.Branches → FollowStep ws (λ words. Handed false F (Has set) (within words) is) old new r → Pushed new r
      alternative_pushed p t =
          closing new r (λ words. Handed false F (Has set) (within words) is) t
          (λ d w. subst (Keeps (held ws) (within new) i) (sym (alternative_node p)) (λ c m x y. handed_branch F (Has set) (within new) is d c m x (w x y)))

      pub switch_pushed : o.below ≡ Below.Cases → FollowStep ws (λ words. Handed false F (Has set) (within words) is) old new r → Pushed new r
      unfolding node_of
      switch_pushed p t =
          closing new r (λ words. Handed false F (Has set) (within words) is) t
          (λ d w. subst (Keeps (held ws) (within new) i) (sym (node_as (Construct.Switch o.size) (known Below.Cases p)))
          (λ c m x y. handed_branch F (Has set) (within new) _ (subst (Handed false F (Has set) (within new)) (sym (parts_siblings ws i o.size)) d) c m x (w x y)))

      pub concatenation_pushed : o.below ≡ Below.Members → FollowStep ws (λ words. Handed true F (Has set) (within words) is) old new r → Pushed new r
      concatenation_pushed p t =
          closing new r (λ words. Handed true F (Has set) (within words) is) t
          (λ d w. subst (Keeps (held ws) (within new) i) (sym (concatenation_node p)) (members_keep new w is d))

    -- "zero or more further passes, joined with the repetition's follow"
    module _ (new : List ℕ) (r : Bool) where
      pub repetition_pushed : (times : Times.Passes) (body further both : List ℕ) → o.below ≡ Below.Body times → Is body (strings first (i + 1))
          → Is further (Repeated (Has body) (from 0)) → Is both (Joined (Has further) (Has set)) → Given old new (i + 1) both r → Pushed new r
      unfolding node_of
      repetition_pushed times body further both p eb ef ej v =
          closing new r (λ words. (x : Bits) → Has both x → within words (i + 1) x)
          (given_step (follow_low ws) (follow_of ws) old new (i + 1) both r v ej.proper (λ x a. sound x ((ej.strings x).0 a)))
          (λ d w. subst (Keeps (held ws) (within new) i) (sym (node_as (Construct.Repetition o.size times) (known (Below.Body times) p)))
          (λ k x y q t. d (join x y) ((ej.strings (join x y)).1
          (record { left = x; right = y; in_left = (ef.strings x).1 (k, omega arith, passes_map F1 (Has body) back k x (first_passes (held ws) (i + 1) k x q)); in_right = w y t; whole = refl }))))
        where
          F1 : Strings
          F1 = first_of ws (i + 1)

          back : (x : Bits) → first_of ws (i + 1) x → Has body x
          back x q = (eb.strings x).1 ((first_any ws first l f (i + 1) x).1 q)

          to : (x : Bits) → Has body x → first_of ws (i + 1) x
          to x q = (first_any ws first l f (i + 1) x).0 ((eb.strings x).0 q)

          sound : (x : Bits) → Joined (Has further) (Has set) x → Follow (held ws) (i + 1) x
          sound x j =
              let q = (ef.strings j.left).0 j.in_left in
              Follow.of_body q.0 (node_as (Construct.Repetition o.size times) (known (Below.Body times) p))
              (passes_first (held ws) F (λ k y z. z) (i + 1) q.0 j.left (passes_map (Has body) (first_of ws (i + 1)) to q.0 j.left q.2))
              (follows j.right j.in_right) j.whole

      pub rule_pushed : (c : ℕ) → o.below ≡ Below.Rule → c ≡ rule_word ws o.rule 0 → Given old new c set r → Pushed new r
      unfolding node_of
      rule_pushed c p q v = use_pushed new r _ _ _ (rule_word ws o.rule 0) c (node_as (Construct.Use o.rule) (known Below.Rule p)) q v

    -- one without parts
    pub none_pushed : o.below ≡ Below.Nothing → Pushed old false
    none_pushed p =
        let keeps : (words : List ℕ) → Keeps (held ws) (within words) i (node_of ws i (construct_at ws i)) =
        λ words. quiet_node ws i (Keeps (held ws) (within words) i) (λ c m. absurd (Memᴰ.not-nil m)) (λ w admits static binds. tt) tt (construct_at ws i) (ap (λ (x : Attributes). x.below) (sym eo) ∙ p) in
        step_map (follow_low ws) (follow_of ws) (λ words. Unit {0}) (FollowClosed ws i) old old false
        (λ words u. subst (Keeps (held ws) (within words) i) (sym (node_as (construct_at ws i) refl)) (keeps words)) (no_step (follow_low ws) (follow_of ws) old)

  pub opening_pushed : (new : List ℕ) (r : Bool) (c : ℕ) → i ≡ opening → c ≡ rule_word ws 0 0 → Given old new c set r → Pushed new r
  opening_pushed new r c p q v = use_pushed new r _ _ _ (rule_word ws 0 0) c (node_opening ws i p) q v
