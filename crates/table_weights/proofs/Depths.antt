-- Which rules a construct leads to, and the totals over them: below a construct they only shrink, and a use leads to one more than its
-- rule's body, for no rule reaches itself.
-- Assumes nothing.
use Prim.Native.Nat.{ℕ, zero, suc, ◌+◌, ◌≤◌, ◌<◌, max}
use native.Mathlib.Decide.{dec_lt}
use native.Mathlib.Omega.{arith}
use mathlib.Core.Path.{◌≡◌, refl, ap, subst, ◌∙◌}
use mathlib.Core.Logic.{◌⊎◌, inl, inr}
use mathlib.Core.List.{List}
use Rattle.table_layout.specs.Places.{rule_count}
use Rattle.table_layout.specs.Constructs.{construct_at}
use Rattle.table_layout.specs.Held.{size_of}
use Rattle.table_layout.specs.declared.Construct.{Construct}
use Rattle.table_reach.specs.Reaching.{body_of, Uses, Reaches, Acyclic}
use Rattle.table_reach.specs.Closure.{some_of, used_rule, calls}
use Rattle.table_reach.proofs.Searches.{some_binary, some_found, some_there}
use Rattle.table_layout.proofs.Views.{parted, use_by}
use Rattle.table_reach.proofs.ReachLaws.{calls_binary, called, calls_use, reach, reach_binary, reach_there, reach_found}
use Rattle.table_weights.specs.Ruled.{size_at, Ruled}
use Rattle.table_weights.proofs.Totals.{total, all, total_mono, total_more}

-- construct j is a use of rule q, or of one that reaches it
abbrev leads : List ℕ → ℕ → ℕ → ℕ
leads ws q j = max (calls ws q j) (reach ws (used_rule (construct_at ws j)) q)

-- construct i, or one below it, is
unfoldable pub reached : List ℕ → ℕ → ℕ → ℕ
unfolding some_of
reached ws i q = some_of (size_at ws i) (leads ws q) i

reaches_rule : (ws : List ℕ) {r q : ℕ} → Reaches ws r q → r < rule_count ws
reaches_rule ws (Reaches.directly u) = u.rule
reaches_rule ws (Reaches.through u a) = u.rule

-- a total over the rules that construct i leads to
abbrev pub spread : List ℕ → (ℕ → ℕ) → ℕ → ℕ
spread ws g i = total (rule_count ws) (reached ws i) g

below_one : (a b : ℕ) → a ≤ 1 → (a ≡ 1 → b ≡ 1) → a ≤ b
below_one zero b h f = omega arith
below_one (suc zero) b h f = let e : b ≡ 1 = f refl in omega arith
below_one (suc (suc a)) b h f = absurd (omega arith)

module _ (ws : List ℕ) (ruled : Ruled ws) where
  leads_binary : (q j : ℕ) → leads ws q j ≤ 1
  leads_binary q j = omega (arith, calls_binary ws q j, reach_binary ws (used_rule (construct_at ws j)) q)

  -- as a use that is there
  pub record Leads (q j : ℕ) : Type 0 where
    pub rule : ℕ
    pub used : construct_at ws j ≡ Construct.Use rule
    pub goes : (rule ≡ q) ⊎ Reaches ws rule q

  leads_found : (q j : ℕ) → q < rule_count ws → leads ws q j ≡ 1 → Leads q j
  leads_found q j h e = elim (dec_lt (calls ws q j) 1) [
    | no l ↦ record { rule = q; used = called ws q j (omega (arith, ruled.rules_most)) (omega (arith, calls_binary ws q j)); goes = inl refl }
    | yes l ↦
        let p = used_rule (construct_at ws j) in
        let a : Reaches ws p q = reach_found ws p q (omega (arith, ruled.rules_most)) (omega (arith, reach_binary ws p q)) in
        record { rule = p; used = use_by (parted (construct_at ws j)) p (omega (arith, ruled.rules_most, reaches_rule ws a)) refl; goes = inr a }
  ]

  leads_there : (q j : ℕ) → Leads q j → leads ws q j ≡ 1
  leads_there q j l = go l.goes
    where
      go : (l.rule ≡ q) ⊎ Reaches ws l.rule q → leads ws q j ≡ 1
      go (inl e) = omega (arith, calls_use ws q j (l.used ∙ ap Construct.Use e), reach_binary ws (used_rule (construct_at ws j)) q)
      go (inr a) =
          let e : reach ws (used_rule (construct_at ws j)) q ≡ 1 = ap (λ (x : Construct). reach ws (used_rule x) q) l.used ∙ reach_there ws a in
          omega (arith, calls_binary ws q j)

  pub reached_binary : (i q : ℕ) → reached ws i q ≤ 1
  unfolding reached
  reached_binary i q = some_binary (leads ws q) (leads_binary q) (size_at ws i) i

  reached_found : (i q : ℕ) → q < rule_count ws → reached ws i q ≡ 1 → (j : ℕ) × (i ≤ j) × (j < i + size_at ws i) × Leads q j
  unfolding reached
  reached_found i q h e = let r = some_found (leads ws q) (leads_binary q) (size_at ws i) i e in (r.0, r.1, r.2, leads_found q r.0 h r.3)

  reached_there : (i q j : ℕ) → i ≤ j → j < i + size_at ws i → Leads q j → reached ws i q ≡ 1
  unfolding reached
  reached_there i q j h k l = some_there (leads ws q) (leads_binary q) (size_at ws i) i j h k (leads_there q j l)

  -- below a construct
  pub spread_inside : (g : ℕ → ℕ) (i k : ℕ) → i ≤ k → k + size_at ws k ≤ i + size_at ws i → spread ws g k ≤ spread ws g i
  spread_inside g i k h l =
      total_mono (reached ws k) (reached ws i) g (rule_count ws)
      (λ q m.
      below_one (reached ws k q) (reached ws i q) (reached_binary k q)
      (λ e. let r = reached_found k q m e in reached_there i q r.0 (omega (arith, r.1)) (omega (arith, r.2)) r.3))

  -- a rule's body leads to what the rule reaches
  body_reaches : (p q : ℕ) → p < rule_count ws → q < rule_count ws → reached ws (body_of ws p) q ≡ 1 → Reaches ws p q
  body_reaches p q h k e =
      let r = reached_found (body_of ws p) q k e in
      let u : Uses ws p r.3.rule = record { at = r.0; rule = h; from = r.1; upto = omega (arith, r.2, ruled.body_whole p h); used = r.3.used } in
      elim r.3.goes [ inl z ↦ subst (λ (x : ℕ). Reaches ws p x) z (Reaches.directly u) | inr a ↦ Reaches.through u a ]

  module _ (acyclic : Acyclic ws) where
    not_itself : (p : ℕ) → p < rule_count ws → reached ws (body_of ws p) p ≡ 0
    not_itself p h = elim (dec_lt (reached ws (body_of ws p) p) 1) [
      | yes l ↦ omega arith
      | no l ↦ absurd (acyclic p (body_reaches p p h h (omega (arith, reached_binary (body_of ws p) p))))
    ]

    -- a use and its rule's body
    pub spread_used : (g : ℕ → ℕ) (i p : ℕ) → construct_at ws i ≡ Construct.Use p → p < rule_count ws → spread ws g (body_of ws p) + g p ≤ spread ws g i
    spread_used g i p e h =
        let s : size_at ws i ≡ 1 = ap size_of e in
        total_more (reached ws (body_of ws p)) (reached ws i) g (rule_count ws) p h (not_itself p h)
        (reached_there i p i (omega arith) (omega arith) (record { rule = p; used = e; goes = inl refl }))
        (λ q m.
        below_one (reached ws (body_of ws p) q) (reached ws i q) (reached_binary (body_of ws p) q)
        (λ z. reached_there i q i (omega arith) (omega arith) (record { rule = p; used = e; goes = inr (body_reaches p q h m z) })))

    -- and of all rules its own is missing
    pub spread_body : (g : ℕ → ℕ) (p : ℕ) → p < rule_count ws → spread ws g (body_of ws p) + g p ≤ total (rule_count ws) all g
    spread_body g p h = total_more (reached ws (body_of ws p)) all g (rule_count ws) p h (not_itself p h) refl (λ q m. reached_binary (body_of ws p) q)

  pub spread_most : (g : ℕ → ℕ) (i : ℕ) → spread ws g i ≤ total (rule_count ws) all g
  spread_most g i = total_mono (reached ws i) all g (rule_count ws) (λ q m. reached_binary i q)
