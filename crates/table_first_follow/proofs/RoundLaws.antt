-- Rounds: steps one after the other, and families that no step changes.
-- Assumes nothing.
use Prim.Native.Nat.{ℕ, ◌+◌, ◌-◌, ◌*◌, ◌/◌, ◌%◌, ◌≤◌, ◌<◌, min}
use mathlib.Core.Path.{◌≡◌, refl, sym, ap, ◌∙◌, subst}
use mathlib.Core.Bool.{Bool, true, false, ◌||◌}
use mathlib.Core.Logic.{inl, inr}
use mathlib.Core.List.Memᴰ
use mathlib.Core.List.{List, []}
use native.Mathlib.Decide.{ℕ_discrete, dec_lt}
use native.Mathlib.Omega.{arith}
use lib.ListN.{length, get_or, take, drop, length-take, length-drop, drop_of_length-le}
use lib.Seq.{ext_get_or}
use Rattle.basis.specs.Bits.{Bits}
use Rattle.basis.specs.Lookahead.{number}
use Rattle.lookahead.specs.Sets.{Has, Is, Proper, Union, member, bit}
use Rattle.lookahead_slices.specs.Family.{part, room, Added, Stored}
use Rattle.lookahead.proofs.BitLaws.{bit_none}
use Rattle.lookahead.proofs.PassLaws.{is_map, no_pass}
use Rattle.table_layout.specs.Held.{held, HeldNode, opening}
use Rattle.theory.proofs.Inversion.{Keeps, follow_least}
use Rattle.table_first_follow.specs.Rules.{Family, Seeded, Applied}
use Rattle.table_first_follow.specs.Rounds.{strings, Between, Step, first_of, first_low, FirstClosed, FirstStep, follow_of, follow_low, within, FollowClosed, From}
use Rattle.theory.specs.Lookahead.{Follow}
use Rattle.table_first_follow.specs.Follows.{Started, StartSets}
use Rattle.table_first_follow.specs.Sets.{sets_held, family_words, FirstSets, FollowSets}
use Rattle.table_first_follow.proofs.RuleLaws.{seeded_first, applied_first, first_least}
use Rattle.table_first_follow.proofs.HeldLaws.{node_past}

-- ---- numbers past a family's

none_has : (words : List ℕ) → words ≡ [] → (x : Bits) → Has words x → ⊥
unfolding member
none_has words e x h =
    let z : member words (number x) ≡ 0 = ap (λ (w : List ℕ). bit (get_or w (number x / 64) 0) (number x % 64)) e ∙ bit_none (number x % 64) in
    omega (arith, h.1)

pub none_past : (words : List ℕ) (i : ℕ) → length words ≡ family_words → sets_held ≤ i → (x : Bits) → strings words i x → ⊥
none_past words i e h = none_has (part i words) (ap (take 8) (drop_of_length-le words {i = 8 * i} (omega arith)))

-- ---- a set read from a family

pub set_loaded : (words : List ℕ) (i : ℕ) (none set out : List ℕ) → Is none (λ (x : Bits). ⊥) → set ≡ part i words → Is out (Union (Has none) (Has set)) → Is out (strings words i)
set_loaded words i none set out n e u =
    is_map out (Union (Has none) (Has set)) (strings words i) (λ x. (
      (λ h. elim h [ inl z ↦ absurd ((n.strings x).0 z) | inr s ↦ subst (λ (l : List ℕ). Has l x) e s ]),
      (λ h. inr (subst (λ (l : List ℕ). Has l x) (sym e) h)),
    )) u

pub set_past : (words : List ℕ) (i : ℕ) (none : List ℕ) → length words ≡ family_words → sets_held ≤ i → Is none (λ (x : Bits). ⊥) → Is none (strings words i)
set_past words i none l h n = is_map none (λ (x : Bits). ⊥) (strings words i) (λ x. ((λ z. absurd z), (λ s. absurd (none_past words i l h x s)))) n

-- ---- a family filled with its first sets

part_eight : (words : List ℕ) (i : ℕ) → length words ≡ family_words → i < sets_held → length (part i words) ≡ 8
part_eight words i e h = length-take 8 (drop (8 * i) words) ∙ ap (min 8) (length-drop (8 * i) words) ∙ omega arith

-- a set that was stored is there
stored_is : (old new : List ℕ) (i : ℕ) (set : List ℕ) (A : Bits → Type 0) → length old ≡ family_words → i < sets_held → Stored old new i set → Is set A → Is (part i new) A
stored_is old new i set A l h s a =
    let n : length (part i new) ≡ 8 = part_eight new i (s.same_length ∙ l) h in
    subst (λ (w : List ℕ). Is w A) (sym (ext_get_or 0 (part i new) set (n ∙ sym a.proper.eight) (λ k b. s.words k (omega arith)))) a

-- the sets below number i are those of `Low`
pub record Planted (Low : Family) (i : ℕ) (words : List ℕ) : Type 0 where
  pub size : length words ≡ family_words
  pub done : (j : ℕ) → j < i → Is (part j words) (Low j)

module _ (Low : Family) where
  pub planted_none : (words : List ℕ) → length words ≡ family_words → Planted Low 0 words
  planted_none words e = record { size = e; done = λ j h. absurd (omega arith) }

  pub planted_more : (old new : List ℕ) (i : ℕ) (set : List ℕ) → i < sets_held → Planted Low i old → Is set (Low i) → Stored old new i set → Planted Low (i + 1) new
  planted_more old new i set h p a s =
      record {
        size = s.same_length ∙ p.size;
        done = λ j l. elim (ℕ_discrete j i) [
          | yes e ↦ subst (λ (k : ℕ). Is (part k new) (Low k)) (sym e) (stored_is old new i set (Low i) p.size h s a)
          | no n ↦ subst (λ (w : List ℕ). Is w (Low j)) (sym (s.others j n)) (p.done j (omega arith))
        ];
      }

  pub planted_done : (High : Family) (words : List ℕ) (i : ℕ) → sets_held ≤ i → ((j : ℕ) (x : Bits) → Low j x → High j x) → Planted Low i words → Between Low High words
  planted_done High words i g f p =
      record {
        size = p.size;
        proper = λ j h. (p.done j (omega arith)).proper;
        all = λ j h x a. ((p.done j (omega arith)).strings x).1 a;
        only = λ j x m. elim (dec_lt j sets_held) [
          | yes h ↦ f j x (((p.done j (omega arith)).strings x).0 m)
          | no h ↦ absurd (none_past words j p.size (omega arith) x m)
        ];
      }

-- ---- steps

differ : {A : Type 0} → ◌≡◌ {A = Bool} true false → A
differ e = let z : ◌≡◌ {A = ℕ} 0 1 = cc in absurd (omega arith)

module _ (Low High : Family) where
  pub no_step : (words : List ℕ) → Step Low High (λ ws. Unit {0}) words words false
  no_step words = record { keeps = λ b. b; grows = λ e. differ (sym e); kept = λ e. refl; closed = λ e. tt }

  pub step_then : (C D : List ℕ → Type 0) (old mid new : List ℕ) (g h : Bool) → Step Low High C old mid g → Step Low High D mid new h
      → Step Low High (λ words. C words × D words) old new (g || h)
  step_then C D old mid new true true s t =
      record { keeps = λ b. t.keeps (s.keeps b); grows = λ e. omega (arith, s.grows refl, t.grows refl); kept = λ e. differ e; closed = λ e. differ e }
  step_then C D old mid new true false s t =
      record {
        keeps = λ b. t.keeps (s.keeps b);
        grows = λ e. subst (λ (l : List ℕ). room l < room old) (sym (t.kept refl)) (s.grows refl);
        kept = λ e. differ e;
        closed = λ e. differ e;
      }
  step_then C D old mid new false true s t =
      record {
        keeps = λ b. t.keeps (s.keeps b);
        grows = λ e. subst (λ (l : List ℕ). room new < room l) (s.kept refl) (t.grows refl);
        kept = λ e. differ e;
        closed = λ e. differ e;
      }
  step_then C D old mid new false false s t =
      record {
        keeps = λ b. t.keeps (s.keeps b);
        grows = λ e. differ (sym e);
        kept = λ e. t.kept refl ∙ s.kept refl;
        closed = λ e. (subst C (sym (t.kept refl)) (s.closed refl), t.closed refl);
      }

  pub step_map : (C D : List ℕ → Type 0) (old new : List ℕ) (g : Bool) → ((words : List ℕ) → C words → D words) → Step Low High C old new g → Step Low High D old new g
  step_map C D old new g f s = record { keeps = s.keeps; grows = s.grows; kept = s.kept; closed = λ e. f new (s.closed e) }

  -- strings of `High` added to one set
  pub added_step : (old new : List ℕ) (i : ℕ) (set : List ℕ) (g : Bool) → i < sets_held → Added old new i set g → Proper set
      → (Between Low High old → (x : Bits) → Has set x → High i x) → Step Low High (λ words. (x : Bits) → Has set x → strings words i x) old new g
  added_step old new i set g h a p f = record { keeps = keeps; grows = a.grows; kept = a.kept; closed = λ e x m. (a.strings x).1 (inr m) }
    where
      sort : (b : Between Low High old) (x : Bits) → Union (Has (part i old)) (Has set) x → High i x
      sort b x (inl m) = b.only i x m
      sort b x (inr m) = f b x m

      keeps : Between Low High old → Between Low High new
      keeps b =
          record {
            size = a.same_length ∙ b.size;
            proper = λ j l. elim (ℕ_discrete j i) [
              | yes e ↦ subst (λ (k : ℕ). Proper (part k new)) (sym e) (a.proper (b.proper i h) p)
              | no n ↦ subst Proper (sym (a.others j n)) (b.proper j l)
            ];
            all = λ j l x m. elim (ℕ_discrete j i) [
              | yes e ↦ subst (λ (k : ℕ). strings new k x) (sym e) ((a.strings x).1 (inl (subst (λ (k : ℕ). strings old k x) e (b.all j l x m))))
              | no n ↦ subst (λ (w : List ℕ). Has w x) (sym (a.others j n)) (b.all j l x m)
            ];
            only = λ j x m. elim (ℕ_discrete j i) [
              | yes e ↦ subst (λ (k : ℕ). High k x) (sym e) (sort b x ((a.strings x).0 (subst (λ (k : ℕ). strings new k x) e m)))
              | no n ↦ b.only j x (subst (λ (w : List ℕ). Has w x) (a.others j n) m)
            ];
          }

-- a round from the last number down
from_more : (Closed : ℕ → List ℕ → Type 0) (i : ℕ) (words : List ℕ) → From Closed (i + 1) words × Closed i words → From Closed i words
from_more Closed i words c j h l = elim (ℕ_discrete j i) [ yes e ↦ subst (λ (k : ℕ). Closed k words) (sym e) c.1 | no n ↦ c.0 j (omega arith) l ]

from_none : (Closed : ℕ → List ℕ → Type 0) (words : List ℕ) → From Closed sets_held words
from_none Closed words j h l = absurd (omega arith)

module _ (Low High : Family) (Closed : ℕ → List ℕ → Type 0) where
  pub round_start : (words : List ℕ) → Step Low High (From Closed sets_held) words words false
  round_start words = step_map Low High (λ ws. Unit {0}) (From Closed sets_held) words words false (λ ws u. from_none Closed ws) (no_step Low High words)

  pub round_turn : (old mid new : List ℕ) (i : ℕ) (g h r : Bool) → 0 < i → r ≡ (g || h) → Step Low High (From Closed i) old mid g
      → Step Low High (Closed (i - 1)) mid new h → Step Low High (From Closed (i - 1)) old new r
  round_turn old mid new i g h r p e s t =
      subst (λ (b : Bool). Step Low High (From Closed (i - 1)) old new b) (sym e)
      (step_map Low High (λ ws. From Closed i ws × Closed (i - 1) ws) (From Closed (i - 1)) old new (g || h)
      (λ ws c. from_more Closed (i - 1) ws (subst (λ (n : ℕ). From Closed n ws) (omega arith) c.0, c.1))
      (step_then Low High (From Closed i) (Closed (i - 1)) old mid new g h s t))

-- ---- FIRST

module _ (ws : List ℕ) where
  pub first_step : (old new : List ℕ) (i : ℕ) (set : List ℕ) (g : Bool) → i < sets_held → Added old new i set g → Is set (Applied (strings old) ((held ws).node i))
      → FirstStep ws (FirstClosed ws i) old new g
  first_step old new i set g h a s =
      let t = added_step (first_low ws) (first_of ws) old new i set g h a s.proper
      (λ b x m. applied_first (held ws) (strings old) b.only ((held ws).node i) x ((s.strings x).0 m)) in
      record {
        keeps = t.keeps;
        grows = t.grows;
        kept = t.kept;
        closed = λ e. subst (FirstClosed ws i) (sym (t.kept e)) (λ x m. subst (λ (l : List ℕ). strings l i x) (t.kept e) (t.closed e x ((s.strings x).1 m)));
      }

  -- fields and eods are of FIRST
  pub low_first : (j : ℕ) (x : Bits) → first_low ws j x → first_of ws j x
  low_first j x s = seeded_first (held ws) {i = j} ((held ws).node j) x s

  -- a family that no rule changes is FIRST
  pub first_done : (words : List ℕ) → Between (first_low ws) (first_of ws) words → From (FirstClosed ws) 0 words → FirstSets ws words
  first_done words b c i h = record { strings = λ x. (b.only i x, λ f. first_least (held ws) (strings words) applied seeded f); proper = b.proper i h }
    where
      applied : (j : ℕ) (x : Bits) → Applied (strings words) ((held ws).node j) x → strings words j x
      applied j x a = elim (dec_lt j sets_held) [
        | yes l ↦ c j (omega arith) l x a
        | no n ↦ absurd (Memᴰ.not-nil (subst (λ (m : HeldNode). Applied (strings words) m x) (node_past ws j (omega arith)) a).1)
      ]

      seeded : (j : ℕ) (x : Bits) → Seeded ((held ws).node j) x → strings words j x
      seeded j x s = elim (dec_lt j sets_held) [
        | yes l ↦ b.all j l x s
        | no n ↦ absurd (subst (λ (m : HeldNode). Seeded m x) (node_past ws j (omega arith)) s)
      ]

-- ---- FOLLOW

pub started_here : (i : ℕ) (one : List ℕ) → i ≡ opening → Is one (λ (x : Bits). (length x ≤ 8) × (number x ≡ 1)) → Is one (Started i)
started_here i one e s =
    is_map one (λ (x : Bits). x ≡ []) (Started i) (λ x. ((λ q. (e, q)), (λ q. q.1))) (no_pass (λ (x : Bits). ⊥) one s)

pub started_elsewhere : (i : ℕ) (none : List ℕ) → (i ≡ opening → ⊥) → Is none (λ (x : Bits). ⊥) → Is none (Started i)
started_elsewhere i none n s = is_map none (λ (x : Bits). ⊥) (Started i) (λ x. ((λ z. absurd z), (λ q. n q.0))) s

-- a round that goes up
pub from_turned : (Closed : ℕ → List ℕ → Type 0) (words : List ℕ) → From (λ n ws. Closed (opening - n) ws) 0 words → From Closed 0 words
from_turned Closed words c j h l = subst (λ (n : ℕ). Closed n words) (let z : opening - (opening - j) ≡ j = omega arith in z) (c (opening - j) (omega arith) (omega arith))

module _ (ws : List ℕ) where
  pub starts_between : (words : List ℕ) → length words ≡ family_words → StartSets words → Between (follow_low ws) (follow_of ws) words
  unfolding held
  starts_between words e s = planted_done (follow_low ws) (follow_of ws) words sets_held (omega arith) (λ j x q. subst (Follow (held ws) j) (sym q.1) (Follow.of_start q.0))
      (record { size = e; done = s })

  -- a family that no rule changes is FOLLOW
  pub follow_done : (words : List ℕ) → Between (follow_low ws) (follow_of ws) words → From (FollowClosed ws) 0 words → FollowSets ws words
  unfolding held
  follow_done words b c i h =
      record {
        strings = λ x. (b.only i x, λ f. follow_least (held ws) (within words) (λ l. b.all (held ws).start l [] (refl, refl)) keeps f h);
        proper = b.proper i h;
      }
    where
      keeps : (j : ℕ) → Keeps (held ws) (within words) j ((held ws).node j)
      keeps j = elim (dec_lt j sets_held) [
        | yes l ↦ c j (omega arith) l
        | no n ↦ subst (Keeps (held ws) (within words) j) (sym (node_past ws j (omega arith))) (λ d m. absurd (Memᴰ.not-nil m))
      ]

-- ---- until nothing changes

-- twice the room, and one more while a round is to come
abbrev pub left_to_do : List ℕ → Bool → ℕ
left_to_do words true = room words + room words + 1
left_to_do words false = room words + room words

pub record Settling (Low High : Family) (Closed : List ℕ → Type 0) (words : List ℕ) (more : Bool) : Type 0 where
  pub between : Between Low High words
  pub closed : more ≡ false → Closed words

module _ (Low High : Family) (Closed : List ℕ → Type 0) where
  pub settle_start : (words : List ℕ) → Between Low High words → Settling Low High Closed words true
  settle_start words b = record { between = b; closed = λ e. differ e }

  pub settle_more : (old new : List ℕ) (g : Bool) → Settling Low High Closed old true → Step Low High Closed old new g → Settling Low High Closed new g
  settle_more old new g s t = record { between = t.keeps s.between; closed = t.closed }

  pub settle_less : (old new : List ℕ) (g : Bool) → Step Low High Closed old new g → left_to_do new g < left_to_do old true
  settle_less old new true t = omega (arith, t.grows refl)
  settle_less old new false t = let e : room new ≡ room old = ap room (t.kept refl) in omega arith
