-- What is decided for the first entry is what the theory's machine does with it, for each kind of construct.
-- Assumes nothing.
use Prim.Native.Nat.{ℕ, zero, suc, ◌+◌, ◌*◌, ◌-◌, ◌≤◌, ◌<◌}
use native.Mathlib.Omega.{arith}
use borrow.Author.Tests.{leb-true, leb-false, le-leb, lt-leb, eq-eqb, ne_eqb}
use mathlib.Core.Path.{◌≡◌, refl, sym, ◌∙◌, ap, subst}
use mathlib.Core.Logic.{inl, inr}
use mathlib.Core.Bool.{Bool, true, false, cond, ◌&&◌}
use mathlib.Core.List.{List, [], ◌∷◌, ◌++◌}
use mathlib.Core.Option.{Option, none, some}
use lib.Dec.{ltb, leb, eqb}
use lib.IntN.{ℤ, pos}
use lib.ListN.{length, take, drop, length-drop}
use Rattle.basis.specs.Bits.{Bits, value, frame_bits, same}
use Rattle.basis.specs.Patterns.{pattern_value}
use Rattle.basis.specs.Counts.{Counts, within}
use Rattle.basis.proofs.Frames.{frame_length}
use Rattle.basis.proofs.Booleans.{which}
use Rattle.term_evaluation.specs.Meaning.{membership}
use Rattle.theory.specs.Grammar.{alternative, concatenation, repetition, switch, field, eod}
use Rattle.theory.specs.Derivation.{Capture}
use Rattle.theory.specs.Machine.{entry, state, Turn, fail, again, leave, turn, choose, entries, act}
use Rattle.table_layout.specs.Places.{rule_word, rule_count}
use Rattle.table_layout.specs.Constructs.{construct_at}
use Rattle.table_layout.specs.Held.{Context, first_context, Values, HeldNode, terms_of, parts, is_yes, passes_allowed, passes_static, passes_fixed, first_case, no_default, literal_bytes, bound, literal_node, range_node, uint_node, use_node, in_set, node_of, held, opening}
use Rattle.table_layout.specs.declared.Construct.{Construct}
use Rattle.table_layout.specs.declared.Passes.{Passes}
use Rattle.run_actions.specs.Stored.{stored, prediction_at, follow_at, tests_of}
use Rattle.run_actions.specs.Acts.{in_table, whole_in_table, terms_in_table, binder_in_table, known_values, enter, open_rule, ahead_at, bits_of, branch_act, case_act, members_act, turn_act, counted, literal_holds, literal_act, range_act, kept, by_set, number_at, bits_act, end_act, construct_act, act_of}
use Rattle.run_actions.specs.declared.Act.{Act}
use Rattle.run_refinement.specs.Runs.{HeldEntry, HeldState}
use Rattle.run_refinement.proofs.Answers.{branch_chosen, case_chosen, no_case_taken, turned, turn_turned, counted_allowed, tested, tested_yes, tested_set}
use Rattle.table_structure.proofs.StaticLaw.{literal_long}
use Rattle.run_refinement.proofs.Walks.{Definite, chosen_act, Row, row_parts, row_of}
use Rattle.run_refinement.proofs.Values.{act_same}
use Rattle.std.specs.Prelude.{Result, Ok, Err}
use Rattle.term_words.specs.declared.TermError.{TermError}

-- members that are put are all the parts, counted
abbrev pub Membered : List ℕ → Act → Type 0
Membered ws Act.Broken = Unit {0}
Membered ws Act.Fail = Unit {0}
Membered ws (Act.Enter b) = Unit {0}
Membered ws (Act.Members start end n) = (js : List ℕ) × Row ws end start js × (n ≡ length js)
Membered ws (Act.Again b) = Unit {0}
Membered ws Act.Leave = Unit {0}
Membered ws (Act.Take width binder n) = Unit {0}

-- what is not bound may be anything
kept_bound : (binder : ℕ) (v : Values) (n : ℤ) → bound binder v (kept binder n) ≡ bound binder v n
kept_bound zero v n = refl
kept_bound (suc x) v n = refl

module _ (ws fs : List ℕ) (vs : List ℤ) (p i k : ℕ) (others : List HeldEntry) (rc : List Capture) where
  abbrev rest : Bits
  rest = drop p (frame_bits fs)

  -- what an act makes of the state, as the theory has it
  abbrev pub done : Act → Option HeldState
  done Act.Broken = none
  done Act.Fail = none
  done (Act.Enter b) = some (state (entry b first_context 0 ∷ others) rest p vs rc)
  done (Act.Members start end n) = some (state (entries first_context (parts (end - start) ws start end) ++ others) rest p vs rc)
  done (Act.Again b) = some (state (entry b first_context 0 ∷ entry i first_context (suc k) ∷ others) rest p vs rc)
  done Act.Leave = some (state others rest p vs rc)
  done (Act.Take width binder n) = some (state others (drop width rest) (p + width) (bound binder vs n) (rc ++ (record { construct = i; first_bit = p } ∷ [])))

  abbrev acted : HeldNode → Option HeldState
  acted node = act (held ws) (tests_of ws) node i first_context k others rest p vs rc

  -- the theory's step on a node is this act
  pub record Does (node : HeldNode) (a : Act) : Type 0 where
    pub agrees : acted node ≡ done a
    pub members : Membered ws a

  does_chosen : (node : HeldNode) (o : Option ℕ) → acted node ≡ elim o [ none ↦ none | some b ↦ some (state (entry b first_context 0 ∷ others) rest p vs rc) ] → Does node (chosen_act Act.Fail o)
  does_chosen node none e = record { agrees = e; members = tt }
  does_chosen node (some b) e = record { agrees = e; members = tt }

  does_alternative : (size : ℕ) → Definite (branch_act ws (ahead_at fs p) (i + 1) (i + size)) → Does (alternative (parts size ws (i + 1) (i + size))) (branch_act ws (ahead_at fs p) (i + 1) (i + size))
  unfolding act
  does_alternative size s =
      let is : List ℕ = parts size ws (i + 1) (i + size) in
      subst (Does (alternative is)) (sym (branch_chosen ws (ahead_at fs p) size (i + 1) (i + size) (omega arith) s))
      (does_chosen (alternative is) (choose (λ b. stored ws (prediction_at b) (ahead_at fs p)) is) refl)

  does_case : (node : HeldNode) (optional : Bool) (o : Option ℕ) → (o ≡ none → optional ≡ true)
      → acted node ≡ elim o [ none ↦ elim optional [ true ↦ some (state others rest p vs rc) | false ↦ none ] | some b ↦ some (state (entry b first_context 0 ∷ others) rest p vs rc) ]
      → Does node (chosen_act Act.Leave o)
  does_case node optional none n e = record { agrees = e ∙ ap (λ (t : Bool). elim t [ true ↦ some (state others rest p vs rc) | false ↦ none ]) (n refl); members = tt }
  does_case node optional (some b) n e = record { agrees = e; members = tt }

  does_switch : (size : ℕ) → Definite (case_act ws vs (i + 1) (i + size))
      → Does (switch (λ c v. first_case ws v (parts size ws (i + 1) (i + size))) (no_default ws (parts size ws (i + 1) (i + size))) (parts size ws (i + 1) (i + size))) (case_act ws vs (i + 1) (i + size))
  unfolding act
  does_switch size s =
      let is : List ℕ = parts size ws (i + 1) (i + size) in
      subst (Does (switch (λ c v. first_case ws v is) (no_default ws is) is)) (sym (case_chosen ws vs size (i + 1) (i + size) (omega arith) s))
      (does_case (switch (λ c v. first_case ws v is) (no_default ws is) is) (no_default ws is) (first_case ws vs is) (no_case_taken ws vs is) refl)

  does_concatenation : (size : ℕ) → Definite (members_act ws (i + 1) (i + size)) → Does (concatenation (parts size ws (i + 1) (i + size))) (members_act ws (i + 1) (i + size))
  unfolding act
  does_concatenation size s =
      let x = row_of ws (i + 1) (i + size) (i + size - (i + 1)) (i + 1) 0 (omega arith) s in
      let e : parts size ws (i + 1) (i + size) ≡ parts (i + size - (i + 1)) ws (i + 1) (i + size) = row_parts size x.1 (omega arith) ∙ sym (row_parts (i + size - (i + 1)) x.1 (omega arith)) in
      subst (Does (concatenation (parts size ws (i + 1) (i + size)))) (sym x.2)
      (record {
        agrees = ap (λ (is : List ℕ). some (state (entries first_context is ++ others) rest p vs rc)) e;
        members = (x.0, x.1, (let z : 0 + length x.0 ≡ length x.0 = omega arith in z));
      })

  does_turned : (node : HeldNode) (t : Turn)
      → acted node ≡ elim t [ fail ↦ none | again ↦ some (state (entry (i + 1) first_context 0 ∷ entry i first_context (suc k) ∷ others) rest p vs rc) | leave ↦ some (state others rest p vs rc) ]
      → Does node (turned (i + 1) t)
  does_turned node fail e = record { agrees = e; members = tt }
  does_turned node again e = record { agrees = e; members = tt }
  does_turned node leave e = record { agrees = e; members = tt }

  does_repetition : (q : Passes) → Definite (turn_act ws (ahead_at fs p) i k (counted ws vs q))
      → Does (repetition (λ c v. passes_allowed ws q v) (passes_static ws q) (passes_fixed ws q) (i + 1)) (turn_act ws (ahead_at fs p) i k (counted ws vs q))
  unfolding act
  does_repetition q s =
      let n : ℕ = ahead_at fs p in
      let node : HeldNode = repetition (λ c v. passes_allowed ws q v) (passes_static ws q) (passes_fixed ws q) (i + 1) in
      let e = turn_turned ws n i k (counted ws vs q) s ∙ ap (λ (c : Counts). turned (i + 1) (turn c k (stored ws (prediction_at (i + 1)) n) (stored ws (follow_at i) n))) (counted_allowed ws vs n i k q s) in
      subst (Does node) (sym e) (does_turned node (turn (passes_allowed ws q vs) k (stored ws (prediction_at (i + 1)) n) (stored ws (follow_at i) n)) refl)

  -- what is done only where a test says that it is in the table
  does_guarded : (node : HeldNode) (t : Bool) (a : Act) → (Definite a → Does node a) → Definite (cond t a Act.Broken) → Does node (cond t a Act.Broken)
  does_guarded node true a f s = f s
  does_guarded node false a f s = absurd (s refl)

  does_open : (r : ℕ) → Definite (open_rule ws r) → Does (use_node ws r) (open_rule ws r)
  unfolding act
  does_open r =
      let b : ℕ = rule_word ws r 0 in
      does_guarded (use_node ws r) (ltb r (rule_count ws)) (enter ws b) (does_guarded (use_node ws r) (in_table ws b) (Act.Enter b) (λ h. record { agrees = refl; members = tt }))

  -- a field: so many bits are left, and they are right
  does_set : (w binder : ℕ) (n : ℤ) (admits : Context → Values → Bits → Bool) (static : Bits → Bool) (binds : Context → Values → Bits → Values) (t : Result Bool TermError)
      → leb w (length rest) ≡ true → is_yes t ≡ admits first_context vs (take w rest) → bound binder vs n ≡ binds first_context vs (take w rest) → Definite (by_set t w binder n)
      → Does (field (λ bits. w) admits static binds) (by_set t w binder n)
  unfolding act
  does_set w binder n admits static binds (Ok true) l y b s =
      record {
        agrees =
            rw (l, ← y, act)
            (ap (λ (v : Values). some (state others (drop w rest) (p + w) v (rc ++ (record { construct = i; first_bit = p } ∷ [])))) (sym b));
        members = tt;
      }
  does_set w binder n admits static binds (Ok false) l y b s = record { agrees = rw (l, ← y, act); members = tt }
  does_set w binder n admits static binds (Err TermError.Malformed) l y b s = absurd (s refl)
  does_set w binder n admits static binds (Err TermError.Overflow) l y b s = absurd (s refl)

  does_short : (w : ℕ) (admits : Context → Values → Bits → Bool) (static : Bits → Bool) (binds : Context → Values → Bits → Values) → leb w (length rest) ≡ false → Does (field (λ bits. w) admits static binds) Act.Fail
  unfolding act
  does_short w admits static binds l = record { agrees = rw (l, act); members = tt }

  module _ (within : p ≤ bits_of fs) where
    rest_length : length rest ≡ bits_of fs - p
    rest_length = length-drop p (frame_bits fs) ∙ ap (◌- p) (frame_length fs)

    does_field : (w binder : ℕ) (n : ℤ) (admits : Context → Values → Bits → Bool) (static : Bits → Bool) (binds : Context → Values → Bits → Values) (t : Result Bool TermError)
        → is_yes t ≡ admits first_context vs (take w rest) → bound binder vs n ≡ binds first_context vs (take w rest) → Definite (cond (leb (p + w) (bits_of fs)) (by_set t w binder n) Act.Fail)
        → Does (field (λ bits. w) admits static binds) (cond (leb (p + w) (bits_of fs)) (by_set t w binder n) Act.Fail)
    does_field w binder n admits static binds t y b s =
        elim (which (leb (p + w) (bits_of fs))) [
          | inl e ↦
              let l : p + w ≤ bits_of fs = leb-true (p + w) (bits_of fs) e in
              let m : leb w (length rest) ≡ true = le-leb w (length rest) (omega (arith, rest_length)) in
              rw e (does_set w binder n admits static binds t m y b (rw e at s))
          | inr e ↦
              let l : bits_of fs < p + w = leb-false (p + w) (bits_of fs) e in
              let m : leb w (length rest) ≡ false = lt-leb w (length rest) (omega (arith, rest_length)) in
              rw e (does_short w admits static binds m)
        ]

    does_literal : (n : ℕ) → Definite (literal_act ws fs p i n) → Does (literal_node (literal_bytes ws i 0 n)) (literal_act ws fs p i n)
    does_literal n s =
        let bytes : List ℕ = literal_bytes ws i 0 n in
        let t : Bool = literal_holds ws fs p i 0 n in
        let z : p + 8 * 0 ≡ p = omega arith in
        let e : is_yes (tested t) ≡ same (take (8 * n) rest) (frame_bits bytes) = tested_yes t ∙ ap (λ (q : ℕ). same (take (8 * n) (drop q (frame_bits fs))) (frame_bits bytes)) z in
        let q : literal_act ws fs p i n ≡ cond (leb (p + 8 * n) (bits_of fs)) (by_set (tested t) (8 * n) 0 (pos 0)) Act.Fail = ap (λ (a : Act). cond (leb (p + 8 * n) (bits_of fs)) a Act.Fail) (tested_set t (8 * n)) in
        subst (λ (m : ℕ). Does (field (λ bits. 8 * m) (λ c v bits. same bits (frame_bits bytes)) (λ bits. same bits (frame_bits bytes)) (λ c v bits. v)) (literal_act ws fs p i n)) (sym (literal_long ws i 0 n))
        (rw q (does_field (8 * n) 0 (pos 0) (λ c v bits. same bits (frame_bits bytes)) (λ bits. same bits (frame_bits bytes)) (λ c v bits. v) (tested t) e refl (rw q at s)))

    does_range : (low high : ℕ) → Definite (range_act fs p low high) → Does (range_node low high) (range_act fs p low high)
    does_range low high s =
        let v : ℕ = value (take 8 rest) in
        let t : Bool = leb low v && leb v high in
        let q : range_act fs p low high ≡ cond (leb (p + 8) (bits_of fs)) (by_set (tested t) 8 0 (pos 0)) Act.Fail = ap (λ (a : Act). cond (leb (p + 8) (bits_of fs)) a Act.Fail) (tested_set t 8) in
        rw q
        (does_field 8 0 (pos 0) (λ c v bits. leb low (value bits) && leb (value bits) high) (λ bits. leb low (value bits) && leb (value bits) high) (λ c v bits. v) (tested t) (tested_yes t) refl
        (rw q at s))

    does_end : (s : Bits) → rest ≡ s → Does eod (end_act fs p)
    unfolding act
    does_end [] e =
        let l : length rest ≡ 0 = ap length e in
        let z : p ≡ bits_of fs = omega (arith, rest_length) in
        rw (eq-eqb p (bits_of fs) z) (record { agrees = rw e; members = tt })
    does_end (b ∷ s) e =
        let l : length rest ≡ suc (length s) = ap length e in
        rw (ne_eqb p (bits_of fs) (λ z. omega (arith, rest_length))) (record { agrees = rw e; members = tt })

    -- any construct
    does_construct : (c : Construct) → Definite (construct_act ws fs vs p i k c) → Does (node_of ws i c) (construct_act ws fs vs p i k c)
    unfolding node_of
    does_construct Construct.Missing s = absurd (s refl)
    does_construct (Construct.Alternative size) s = does_alternative size s
    does_construct (Construct.Concatenation size) s = does_concatenation size s
    does_construct (Construct.Repetition size passes) s = does_repetition passes s
    does_construct (Construct.Switch size) s = does_switch size s
    does_construct (Construct.Use rule) s = does_open rule s
    does_construct (Construct.Literal n) s = does_literal n s
    does_construct (Construct.Range low high) s = does_range low high s
    does_construct (Construct.Uint signed width start end binder) s =
        let n : ℤ = number_at fs p signed width in
        does_guarded (uint_node ws signed width start end binder) (terms_in_table ws end && binder_in_table ws binder) (bits_act ws fs vs p signed width start end binder)
        (does_field width binder (kept binder n) (λ c v bits. in_set ws start end v (pattern_value signed bits)) _ (λ c v bits. bound binder v (pattern_value signed bits)) (membership vs n start (terms_of ws start end)) refl (kept_bound binder vs n)) s
    does_construct Construct.Eod s = does_end rest refl

    -- the opening use too
    pub does : Definite (act_of ws fs vs p i k) → Does ((held ws).node i) (act_of ws fs vs p i k)
    unfolding held act_of
    does s =
        let c : Construct = construct_at ws i in
        elim (which (eqb i opening)) [
          | inl e ↦ rw e (does_open 0 (rw e at s))
          | inr e ↦ rw e (does_guarded (node_of ws i c) (whole_in_table ws i) (construct_act ws fs (known_values ws vs) p i k c) known (rw e at s))
        ]
      where
        -- over the table's own variables
        known : Definite (construct_act ws fs (known_values ws vs) p i k (construct_at ws i)) → Does (node_of ws i (construct_at ws i)) (construct_act ws fs (known_values ws vs) p i k (construct_at ws i))
        known d =
            let e = act_same ws fs vs p i k (construct_at ws i) d in
            subst (Does (node_of ws i (construct_at ws i))) (sym e) (does_construct (construct_at ws i) (subst Definite e d))
