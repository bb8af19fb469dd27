-- What the functions work out is which rules reach which.
-- Assumes nothing.
use Rattle.std.specs.Prelude.{Option, Some, None}
use Prim.Native.Nat.{ℕ, ◌-◌, ◌≤◌, ◌<◌, min}
use native.Mathlib.Omega.{arith}
use native.Mathlib.Decide.{dec_lt}
use mathlib.Core.Path.{◌≡◌, refl, sym, ◌∙◌}
use mathlib.Core.Bool.{Bool, true, false, false≢true, cond}
use mathlib.Core.List.{List}
use borrow.Author.Tests.{ltb-true, lt-ltb, eqb-true, eq-eqb}
use lib.Dec.{ltb, eqb}
use lib.ListN.{get_or}
use Rattle.basis.specs.Limits.{max_rules, max_constructs}
use Rattle.basis.proofs.Booleans.{both_first, both_second}
use Rattle.table_layout.specs.Places.{rule_count}
use Rattle.table_layout.specs.Constructs.{construct_at}
use Rattle.table_layout.specs.declared.Construct.{Construct}
use Rattle.table_layout.proofs.Views.{parted, use_by}
use Rattle.lookahead.specs.Sets.{bit}
use Rattle.table_reach.specs.Reaching.{body_of, rule_end, Uses, Reaches, Found, Unreached, Covered}
use Rattle.table_reach.specs.Closure.{used_rule, calls, uses_between, uses, closure, Matrix, Diagonal, from_start, StartRow}
use Rattle.table_reach.proofs.Searches.{some_binary, some_found, some_there}
use Rattle.table_reach.proofs.Closures.{Chain, closure_binary, chain_closure, closure_least}
use Rattle.table_reach.proofs.Constructs.{use_below}

-- a test as a number
pub chosen_binary : (b : Bool) (n : ℕ) → n ≤ 1 → cond b n 0 ≤ 1
chosen_binary true n h = h
chosen_binary false n h = omega arith

pub chosen : (b : Bool) (n : ℕ) → cond b n 0 ≡ 1 → (b ≡ true) × (n ≡ 1)
chosen true n e = (refl, e)
chosen false n e = absurd (omega arith)

module _ (ws : List ℕ) where
  pub calls_binary : (q i : ℕ) → calls ws q i ≤ 1
  calls_binary q i = chosen_binary (eqb (used_rule (construct_at ws i)) q) 1 (omega arith)

  pub called : (q i : ℕ) → q < 64 → calls ws q i ≡ 1 → construct_at ws i ≡ Construct.Use q
  called q i h e = use_by (parted (construct_at ws i)) q h (eqb-true (used_rule (construct_at ws i)) q (chosen (eqb (used_rule (construct_at ws i)) q) 1 e).0)

  pub calls_use : (q i : ℕ) → construct_at ws i ≡ Construct.Use q → calls ws q i ≡ 1
  calls_use q i e = rw (e, eq-eqb q q refl) refl

  pub uses_binary : (r q : ℕ) → uses ws r q ≤ 1
  uses_binary r q = chosen_binary (ltb r (rule_count ws)) _ (some_binary (calls ws q) (calls_binary q) (min max_constructs (rule_end ws r) - body_of ws r) (body_of ws r))

  pub uses_row : (r q first end : ℕ) → r < rule_count ws → first ≡ body_of ws r → end ≡ min max_constructs (rule_end ws r) → uses_between ws first end q ≡ uses ws r q
  uses_row r q first end h e f = rw (lt-ltb r (rule_count ws) h, e, f)

  pub uses_found : (r q : ℕ) → q < max_rules → uses ws r q ≡ 1 → Uses ws r q
  uses_found r q h e =
      let c = chosen (ltb r (rule_count ws)) (uses_between ws (body_of ws r) (min max_constructs (rule_end ws r)) q) e in
      let f = some_found (calls ws q) (calls_binary q) (min max_constructs (rule_end ws r) - body_of ws r) (body_of ws r) c.1 in
      record { at = f.0; rule = ltb-true r (rule_count ws) c.0; from = f.1; upto = omega (arith, f.1, f.2); used = called q f.0 h f.3 }

  pub uses_there : (r q : ℕ) → Uses ws r q → uses ws r q ≡ 1
  uses_there r q u =
      rw (lt-ltb r (rule_count ws) u.rule)
      (some_there (calls ws q) (calls_binary q) (min max_constructs (rule_end ws r) - body_of ws r) (body_of ws r) u.at u.from (omega (arith, u.from, u.upto, (use_below ws u.at q u.used).0))
      (calls_use q u.at u.used))

  pub reaches_joined : {r p q : ℕ} → Reaches ws r p → Reaches ws p q → Reaches ws r q
  reaches_joined (Reaches.directly u) b = Reaches.through u b
  reaches_joined (Reaches.through u a) b = Reaches.through u (reaches_joined a b)

  pub reaches_below : {r q : ℕ} → Reaches ws r q → q < max_rules
  reaches_below {q = q} (Reaches.directly u) = (use_below ws u.at q u.used).1
  reaches_below (Reaches.through u a) = reaches_below a

  chain_of : {r q : ℕ} → Reaches ws r q → Chain (uses ws) max_rules r q
  chain_of {r} {q} (Reaches.directly u) = Chain.link (uses_there r q u)
  chain_of {r} (Reaches.through {p = p} u a) = Chain.longer (uses_there r p u) (use_below ws u.at p u.used).1 (chain_of a)

  -- rule r reaches rule q, as a number
  abbrev pub reach : ℕ → ℕ → ℕ
  reach r q = closure (uses ws) max_rules r q

  pub reach_binary : (r q : ℕ) → reach r q ≤ 1
  reach_binary r q = closure_binary (uses ws) uses_binary max_rules r q

  pub reach_there : {r q : ℕ} → Reaches ws r q → reach r q ≡ 1
  reach_there a = chain_closure (uses ws) uses_binary max_rules (chain_of a)

  pub reach_found : (r q : ℕ) → q < max_rules → reach r q ≡ 1 → Reaches ws r q
  reach_found r q h e =
      closure_least (uses ws) uses_binary (λ r q. q < max_rules → Reaches ws r q) max_rules (λ r q e h. Reaches.directly (uses_found r q h e)) (λ r p q l a b h. reaches_joined (a l) (b h)) max_rules r q
      (omega arith) e h

  -- the first row that has its own bit is the first rule that reaches itself
  module _ (rows : List ℕ) (m : Matrix rows (reach)) where
    none_there : (q : ℕ) → bit (get_or rows q 0) q ≡ 0 → Reaches ws q q → ⊥
    none_there q e a = let h : q < max_rules = reaches_below a in omega (arith, m.entry q q h h, reach_there a)

    pub found : (x : Option ℕ) → Diagonal rows x → Found ws x
    found None d = λ q a. none_there q (d q (reaches_below a)) a
    found (Some r) d = (reach_found r r d.0 (sym (m.entry r r d.0 d.0) ∙ d.1), λ q h a. none_there q (d.2 q h) a)

    -- row 0 has the bits of the rules that the start rule reaches
    row_reaches : (q : ℕ) → from_start rows q ≡ true → Reaches ws 0 q
    row_reaches q e =
        let h : q < max_rules = ltb-true q max_rules (both_first (ltb q max_rules) (eqb (bit (get_or rows 0 0) q) 1) e) in
        let b : bit (get_or rows 0 0) q ≡ 1 = eqb-true (bit (get_or rows 0 0) q) 1 (both_second (ltb q max_rules) (eqb (bit (get_or rows 0 0) q) 1) e) in
        reach_found 0 q h (sym (m.entry 0 q (omega arith) h) ∙ b)

    reaches_row : (q : ℕ) → Reaches ws 0 q → from_start rows q ≡ true
    reaches_row q a =
        let h : q < max_rules = reaches_below a in
        rw (lt-ltb q max_rules h) (eq-eqb (bit (get_or rows 0 0) q) 1 (m.entry 0 q (omega arith) h ∙ reach_there a))

    another : (q : ℕ) → Unreached ws q → 1 ≤ q
    another q u = elim (dec_lt 0 q) [ yes h ↦ h | no h ↦ absurd (u.other (omega arith)) ]

    -- the first rule that row 0 does not have is the first that is not reached
    pub covered : (count : ℕ) → count ≡ rule_count ws → (x : Option ℕ) → StartRow rows count x → Covered ws x
    covered count c None d = λ q u. u.unreached (row_reaches q (d q (another q u) (omega (arith, u.there))))
    covered count c (Some r) d = (
      record { there = omega (arith, d.1); other = λ e. omega (arith, d.0); unreached = λ a. false≢true (sym d.2 ∙ reaches_row r a) },
      λ q h u. u.unreached (row_reaches q (d.3 q (another q u) h)),
    )
