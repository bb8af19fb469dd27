-- The FIRST sets of fields, from the numbers of their strings.
-- Assumes nothing.
use Prim.Native.Nat.{ℕ, zero, suc, ◌+◌, ◌-◌, ◌*◌, ◌/◌, ◌%◌, ◌^◌, ◌≤◌, ◌<◌, max}
use mathlib.Core.Path.{◌≡◌, refl, sym, ap, ◌∙◌, subst}
use mathlib.Core.Bool.{Bool, true, false, false≢true, cond, ◌&&◌}
use mathlib.Core.Logic.{inl, inr, ◌↔◌}
use mathlib.Core.List.{List, [], ◌∷◌}
use native.Mathlib.Omega.{arith}
use native.Mathlib.Decide.{ℕ_discrete, dec_lt}
use native.Mathlib.Nat.{add-zero}
use borrow.Author.Tests.{le-leb, leb-true}
use lib.Dec.{leb}
use lib.IntN.{ℤ}
use lib.ListN.{length}
use lib.Seq.{take_at}
use lib.Pow.{pow_mono}
use Rattle.table_first_follow.specs.Sets.{sets_held}
use Rattle.basis.specs.Limits.{max_constructs}
use Rattle.basis.specs.Bits.{Bits, bits_of, value, frame_bits, same}
use Rattle.basis.specs.Lookahead.{lookahead, number}
use Rattle.basis.specs.Patterns.{pattern_value}
use Rattle.basis.proofs.Frames.{frame_length}
use Rattle.basis.proofs.Strings.{same_refl, same_true}
use Rattle.basis.proofs.Numbers.{number_value, number_lt, number_injective, number_bits_of}
use Rattle.basis.proofs.Values.{length_bits_of, value_less, bits_of_value}
use Rattle.basis.proofs.Joins.{lookahead_length, lookahead_short}
use Rattle.basis.proofs.Booleans.{both_true, both_pass}
use Rattle.lookahead.specs.Sets.{Has, Is, Union}
use Rattle.lookahead.proofs.PassLaws.{is_map, no_pass}
use Rattle.table_layout.specs.Places.{word, literals_at}
use Rattle.table_layout.specs.Constructs.{construct_at}
use Rattle.table_layout.specs.Held.{held, node_of, HeldNode, parts, no_default, literal_bytes, in_static_set, term_words, terms_of, is_yes}
use Rattle.table_layout.specs.declared.Construct.{Construct}
use Rattle.term_evaluation.specs.Meaning.{membership}
use Rattle.term_evaluation.specs.Variables.{has_variable}
use Rattle.term_prefixes.specs.Prefixes.{admits}
use Rattle.term_membership.specs.Members.{holds}
use Rattle.term_membership.specs.Members as Members
use Rattle.term_words.specs.Numbers as Numbers
use Rattle.table_first_follow.specs.Rules.{Seeded, Leading}
use Rattle.table_first_follow.specs.Fields.{Numbered, Any, Led, Named}
use Rattle.table_first_follow.specs.Parts.{siblings, Neutral}
use Rattle.table_layout.proofs.Bounds.{missing_past}
use Rattle.table_first_follow.proofs.HeldLaws.{node_inside, node_opening}
use Rattle.table_first_follow.proofs.PartLaws.{parts_siblings}
use Rattle.std.specs.Prelude.{Result, Ok, Err}
use Rattle.term_words.specs.declared.TermError.{TermError}

-- ---- strings gathered by their numbers

module _ (low : ℕ) (P : ℕ → Type 0) where
  pub numbered_none : (n : ℕ) (out : List ℕ) → n ≡ low → Is out (λ (x : Bits). ⊥) → Is out (Numbered low n P)
  numbered_none n out e s = is_map out (λ (x : Bits). ⊥) (Numbered low n P) (λ x. ((λ z. absurd z), (λ h. omega (arith, h.1, h.2)))) s

  pub numbered_hit : (n : ℕ) (out next : List ℕ) → low ≤ n → P n → Is out (Numbered low n P) → Is next (Union (Has out) (λ (x : Bits). (length x ≤ 8) × (number x ≡ n)))
      → Is next (Numbered low (n + 1) P)
  numbered_hit n out next l p s u = is_map next (Union (Has out) (λ (x : Bits). (length x ≤ 8) × (number x ≡ n))) (Numbered low (n + 1) P) (λ x. (to x, back x)) u
    where
      to : (x : Bits) → Union (Has out) (λ (y : Bits). (length y ≤ 8) × (number y ≡ n)) x → Numbered low (n + 1) P x
      to x (inl h) = let q = (s.strings x).0 h in (q.0, q.1, omega (arith, q.2), q.3)
      to x (inr q) = (q.0, omega (arith, q.1), omega (arith, q.1), subst P (sym q.1) p)

      back : (x : Bits) → Numbered low (n + 1) P x → Union (Has out) (λ (y : Bits). (length y ≤ 8) × (number y ≡ n)) x
      back x q = elim (ℕ_discrete (number x) n) [
        | yes e ↦ inr (q.0, e)
        | no e ↦ inl ((s.strings x).1 (q.0, q.1, omega (arith, q.2, e), q.3))
      ]

  -- at the end, where there may have been no number
  pub numbered_end : (n high : ℕ) (out : List ℕ) → high ≤ n → n ≤ max low high → Is out (Numbered low n P) → Is out (Numbered low high P)
  numbered_end n high out h l s = is_map out (Numbered low n P) (Numbered low high P) (λ x. (
    (λ q. (q.0, q.1, omega (arith, q.1, q.2), q.3)),
    (λ q. (q.0, q.1, omega (arith, q.2), q.3)),
  )) s

-- ---- a field of 8 bits and more

number_eight : (x : Bits) → length x ≡ 8 → number x ≡ 256 + value x
number_eight x e = number_value x ∙ ap (λ (k : ℕ). 2 ^ k + value x) e

eight : (x : Bits) → length x ≤ 8 → 256 ≤ number x → length x ≡ 8
eight x h g = elim (dec_lt (length x) 8) [
  | yes l ↦ let p : 2 ^ suc (length x) ≤ 2 ^ 8 = pow_mono {i = suc (length x)} {j = 8} (omega arith) in absurd (omega (arith, number_lt x))
  | no l ↦ omega arith
]

-- ---- ranges

module _ (low high : ℕ) (h : high < 128) where
  abbrev test : Bits → Bool
  test bits = leb low (value bits) && leb (value bits) high

  pub range_strings : (x : Bits) → Numbered (256 + low) (257 + high) Any x ↔ Leading (λ bits. 8) test x
  range_strings x = (to, back)
    where
      to : Numbered (256 + low) (257 + high) Any x → Leading (λ bits. 8) test x
      to q =
          let e : length x ≡ 8 = eight x q.0 (omega (arith, q.1)) in
          let v : number x ≡ 256 + value x = number_eight x e in
          (x, e, both_pass (le-leb low (value x) (omega (arith, q.1))) (le-leb (value x) high (omega (arith, q.2))), sym (lookahead_short x (omega arith)))

      back : Leading (λ bits. 8) test x → Numbered (256 + low) (257 + high) Any x
      back (bits, e, t, p) =
          let b : x ≡ bits = p ∙ lookahead_short bits (omega arith) in
          let l : length x ≡ 8 = ap length b ∙ e in
          let v : number x ≡ 256 + value x = number_eight x l in
          let w : value x ≡ value bits = ap value b in
          let u = both_true (leb low (value bits)) (leb (value bits) high) t in
          let u0 : low ≤ value bits = leb-true low (value bits) u.0 in
          let u1 : value bits ≤ high = leb-true (value bits) high u.1 in
          (omega arith, omega arith, omega arith, tt)

-- ---- literals

frame_first : (b : ℕ) (bs : List ℕ) → lookahead (frame_bits (b ∷ bs)) ≡ bits_of 8 b
unfolding frame_bits
frame_first b bs = take_at (bits_of 8 b) (frame_bits bs) 8 (length_bits_of 8 b)

module _ (b : ℕ) (bs : List ℕ) where
  -- the strings of a literal: its first byte
  literal_strings : (x : Bits) → ((length x ≤ 8) × (number x ≡ 256 + b % 256)) ↔ Leading (λ bits. 8 * length (b ∷ bs)) (λ bits. same bits (frame_bits (b ∷ bs))) x
  literal_strings x = (to, back)
    where
      to : (length x ≤ 8) × (number x ≡ 256 + b % 256) → Leading (λ bits. 8 * length (b ∷ bs)) (λ bits. same bits (frame_bits (b ∷ bs))) x
      to q = (frame_bits (b ∷ bs), frame_length (b ∷ bs), same_refl (frame_bits (b ∷ bs)), number_injective x (bits_of 8 b) (q.1 ∙ sym (number_bits_of 8 b)) ∙ sym (frame_first b bs))

      back : Leading (λ bits. 8 * length (b ∷ bs)) (λ bits. same bits (frame_bits (b ∷ bs))) x → (length x ≤ 8) × (number x ≡ 256 + b % 256)
      back (bits, l, t, p) =
          let e : x ≡ bits_of 8 b = p ∙ ap lookahead (same_true bits (frame_bits (b ∷ bs)) t) ∙ frame_first b bs in
          (subst (λ (s : Bits). length s ≤ 8) (sym p) (lookahead_length bits), ap number e ∙ number_bits_of 8 b)

-- ---- uints

yes_same : (t : Result Bool TermError) → is_yes t ≡ Members.is_yes t
yes_same (Ok false) = refl
yes_same (Ok true) = refl
yes_same (Err e) = refl

module _ (ws : List ℕ) (start end : ℕ) where
  static_admits : (n : ℤ) → in_static_set ws start end n ≡ admits start (terms_of ws start end) n
  unfolding admits holds
  static_admits n = ap (cond (has_variable (terms_of ws start end)) true) (yes_same (membership [] n start (terms_of ws start end)))

  module _ (signed : Bool) (width : ℕ) where
    pub uint_strings : (x : Bits) → Named (Led width signed (term_words ws) start end) x ↔ Leading (λ bits. width) (λ bits. in_static_set ws start end (pattern_value signed bits)) x
    uint_strings x = (to, back)
      where
        to : Named (Led width signed (term_words ws) start end) x → Leading (λ bits. width) (λ bits. in_static_set ws start end (pattern_value signed bits)) x
        to (l, (v, k)) =
            (bits_of width v, length_bits_of width v, static_admits (pattern_value signed (bits_of width v)) ∙ k.member, number_injective x (lookahead (bits_of width v)) (sym k.leading))

        back : Leading (λ bits. width) (λ bits. in_static_set ws start end (pattern_value signed bits)) x → Named (Led width signed (term_words ws) start end) x
        back (bits, l, t, p) =
            let b : bits_of width (value bits) ≡ bits = ap (λ (w : ℕ). bits_of w (value bits)) (sym l) ∙ bits_of_value bits in (
              subst (λ (s : Bits). length s ≤ 8) (sym p) (lookahead_length bits),
              (
                value bits,
                record {
                  less = subst (λ (w : ℕ). value bits < 2 ^ w) l (value_less bits);
                  member = ap (λ (s : Bits). admits start (terms_of ws start end) (pattern_value signed s)) b ∙ sym (static_admits (pattern_value signed bits)) ∙ t;
                  leading = ap (λ (s : Bits). number (lookahead s)) b ∙ ap number (sym p);
                },
              ),
            )

-- ---- a construct's seed

module _ (ws : List ℕ) (i : ℕ) (h : i < sets_held) (r : Construct) (e : r ≡ construct_at ws i) (out : List ℕ) where
  abbrev Right : Type 0
  Right = Is out (Seeded ((held ws).node i))

  -- the opening use has none, as a construct that is missing
  pub seed_placed : (c : Construct) → r ≡ c → Is out (Seeded (node_of ws i c)) → Right
  unfolding node_of
  seed_placed c p s = elim (dec_lt i max_constructs) [
    | yes l ↦ subst (λ (n : HeldNode). Is out (Seeded n)) (sym (node_inside ws i l ∙ ap (node_of ws i) (sym e ∙ p))) s
    | no l ↦
        subst (λ (n : HeldNode). Is out (Seeded n)) (sym (node_opening ws i (omega arith)))
        (subst (λ (k : Construct). Is out (Seeded (node_of ws i k))) (sym p ∙ e ∙ missing_past ws i (omega arith)) s)
  ]

  pub seed_none : (c : Construct) → r ≡ c → ((x : Bits) → Seeded (node_of ws i c) x → ⊥) → Is out (λ (x : Bits). ⊥) → Right
  seed_none c p f s = seed_placed c p (is_map out (λ (x : Bits). ⊥) (Seeded (node_of ws i c)) (λ x. ((λ z. absurd z), f x)) s)

  literal_shape : (n : ℕ) → 1 ≤ n
      → (x : Bits) → ((length x ≤ 8) × (number x ≡ 256 + word ws (literals_at + 8 * i) % 256)) ↔ Seeded (node_of ws i (Construct.Literal n)) x
  unfolding node_of literal_bytes
  literal_shape zero l x = absurd (omega arith)
  literal_shape (suc n) l x =
      let w : ℕ = word ws (literals_at + 8 * i + 0) in
      let b : ℕ = w / 1 % 256 in
      let q : b % 256 ≡ word ws (literals_at + 8 * i) % 256 = omega arith ∙ ap (λ (k : ℕ). word ws k % 256) (add-zero (literals_at + 8 * i)) in
      subst (λ (k : ℕ). ((length x ≤ 8) × (number x ≡ 256 + k)) ↔ Leading (λ bits. 8 * length (b ∷ literal_bytes ws i 1 n)) (λ bits. same bits (frame_bits (b ∷ literal_bytes ws i 1 n))) x) q (literal_strings b (literal_bytes ws i 1 n) x)

  pub seed_literal : (n : ℕ) (w : ℕ) → r ≡ Construct.Literal n → 1 ≤ n → w ≡ word ws (literals_at + 8 * i)
      → Is out (λ (x : Bits). (length x ≤ 8) × (number x ≡ 256 + w % 256)) → Right
  seed_literal n w p l q s =
      seed_placed (Construct.Literal n) p
      (is_map out (λ (x : Bits). (length x ≤ 8) × (number x ≡ 256 + word ws (literals_at + 8 * i) % 256)) (Seeded (node_of ws i (Construct.Literal n))) (literal_shape n l)
      (subst (λ (v : ℕ). Is out (λ (x : Bits). (length x ≤ 8) × (number x ≡ 256 + v % 256))) q s))

  pub seed_range : (low high : ℕ) → r ≡ Construct.Range low high → high < 128 → Is out (Numbered (256 + low) (257 + high) Any) → Right
  unfolding node_of
  seed_range low high p l s = seed_placed (Construct.Range low high) p (is_map out (Numbered (256 + low) (257 + high) Any) (Seeded (node_of ws i (Construct.Range low high))) (range_strings low high l) s)

  pub seed_uint : (signed : Bool) (width start end binder : ℕ) → r ≡ Construct.Uint signed width start end binder
      → Is out (Named (Led width signed (term_words ws) start end)) → Right
  unfolding node_of
  seed_uint signed width start end binder p s =
      seed_placed (Construct.Uint signed width start end binder) p
      (is_map out (Named (Led width signed (term_words ws) start end)) (Seeded (node_of ws i (Construct.Uint signed width start end binder)))
      (uint_strings ws start end signed width) s)

  -- a switch without a default has the empty string
  empty_string : (optional : Bool) (x : Bits) → Neutral optional x ↔ ((optional ≡ true) × (x ≡ []))
  empty_string true x = ((λ e. (refl, e)), (λ e. e.1))
  empty_string false x = ((λ z. absurd z), (λ e. absurd (false≢true e.0)))

  pub seed_switch : (size : ℕ) (b : Bool) → r ≡ Construct.Switch size → b ≡ no_default ws (siblings ws (i + 1) (i + size)) → Is out (Neutral b) → Right
  unfolding node_of
  seed_switch size b p q s =
      let e : b ≡ no_default ws (parts size ws (i + 1) (i + size)) = q ∙ ap (no_default ws) (sym (parts_siblings ws i size)) in
      seed_placed (Construct.Switch size) p (is_map out (Neutral b) (Seeded (node_of ws i (Construct.Switch size))) (λ x. subst (λ (t : Bool). Neutral b x ↔ ((t ≡ true) × (x ≡ []))) e (empty_string b x)) s)

  pub seed_eod : r ≡ Construct.Eod → Is out (λ (x : Bits). (length x ≤ 8) × (number x ≡ 1)) → Right
  unfolding node_of
  seed_eod p s = seed_placed Construct.Eod p (no_pass (λ (x : Bits). ⊥) out s)
