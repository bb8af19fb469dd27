-- What a chain spells is by the rules of FIRST and FOLLOW: its window is the first window of the constructs, joined with what comes behind them.
-- Assumes nothing.
use Prim.Native.Nat.{ℕ, zero, suc}
use mathlib.Core.Path.{◌≡◌, refl, sym, ◌∙◌, ap, subst}
use mathlib.Core.List.{List, [], ◌∷◌, ◌++◌}
use lib.ListN.{replicate}
use Rattle.basis.specs.Bits.{Bits}
use Rattle.basis.specs.Lookahead.{lookahead, join}
use Rattle.basis.proofs.Joins.{join_front, join_back, join_assoc, lookahead_append, lookahead_length, lookahead_short}
use Rattle.theory.specs.Grammar.{Grammar, Node}
use Rattle.theory.specs.Derivation.{construct, members, passes}
use Rattle.theory.specs.Lookahead.{First, Follow}
use Rattle.report_chain_meaning.specs.Chains.{Step, Rest, nothing, after, Spells}

-- a window is cut already
pub cut_once : (s : Bits) → lookahead (lookahead s) ≡ lookahead s
cut_once s = lookahead_short (lookahead s) (lookahead_length s)

module _ {Context Values : Type 0} (g : Grammar Context Values) where
  -- the windows of what comes behind
  abbrev pub Behind : Rest → Bits → Type 0
  Behind nothing z = z ≡ []
  Behind (after i) z = Follow g i z

  -- x is a first window of these constructs in a row, joined with one of what comes behind them
  pub record Read (is : List ℕ) (r : Rest) (x : Bits) : Type 0 where
    pub front : Bits
    pub back : Bits
    pub first : First g (members is) front
    pub behind : Behind r back
    pub joined : x ≡ join front back

  -- of members in two stretches
  record Parted (ms is : List ℕ) (y : Bits) : Type 0 where
    one : Bits
    two : Bits
    first_one : First g (members ms) one
    first_two : First g (members is) two
    both : lookahead y ≡ join one two

  parted : (ms : List ℕ) {is : List ℕ} {y : Bits} → First g (members (ms ++ is)) y → Parted ms is y
  parted [] {y = y} f = record { one = []; two = y; first_one = First.no_members; first_two = f; both = refl }
  parted (m ∷ ms) {is} {y = w} (First.more_members {x = u} {y = v} f fs e) = joined_up (parted ms fs)
    where
      joined_up : Parted ms is v → Parted (m ∷ ms) is w
      joined_up p = record {
        one = join u p.one;
        two = p.two;
        first_one = First.more_members f p.first_one refl;
        first_two = p.first_two;
        both = ap lookahead e ∙ (cut_once (u ++ v) ∙ (sym (join_back u v) ∙ (ap (join u) p.both ∙ sym (join_assoc u p.one p.two))));
      }

  as_passes : (k : ℕ) {b : ℕ} {y : Bits} → First g (members (replicate k b)) y → First g (passes b k) y
  as_passes zero First.no_members = First.no_passes
  as_passes (suc k) (First.more_members f fs e) = First.more_passes f (as_passes k fs) e

  -- a construct in place of its part
  owned : {b i : ℕ} {is : List ℕ} {r : Rest} {x : Bits} → ((a : Bits) → First g (construct b (g.node b)) a → First g (construct i (g.node i)) a)
      → Read (b ∷ is) r x → Read (i ∷ is) r x
  owned {b} {i} {is} {r} {x} up p = by p.first p.joined
    where
      by : {y : Bits} → First g (members (b ∷ is)) y → x ≡ join y p.back → Read (i ∷ is) r x
      by {y} (First.more_members f fs e) q = record { front = y; back = p.back; first = First.more_members (up _ f) fs e; behind = p.behind; joined = q }

  -- a construct in place of its parts
  gathered : (ms : List ℕ) {i : ℕ} {is : List ℕ} {r : Rest} {x : Bits} → ((a : Bits) → First g (members ms) a → First g (construct i (g.node i)) a)
      → Read (ms ++ is) r x → Read (i ∷ is) r x
  gathered ms {i} {is} {r} {x} up p = by (parted ms p.first)
    where
      by : Parted ms is p.front → Read (i ∷ is) r x
      by q = record {
        front = join q.one q.two;
        back = p.back;
        first = First.more_members (up q.one q.first_one) q.first_two refl;
        behind = p.behind;
        joined = p.joined ∙ (sym (join_front p.front p.back) ∙ ap (λ (s : Bits). join s p.back) q.both);
      }

  -- what follows a construct in place of what follows its owner
  moved : {i b : ℕ} {x : Bits} → ((z : Bits) → Follow g i z → Follow g b z) → Read [] (after i) x → Read [] (after b) x
  moved down p = record { front = p.front; back = p.back; first = p.first; behind = down p.back p.behind; joined = p.joined }

  -- what follows a construct in place of constructs after it and what follows its owner
  followed : {i b : ℕ} {is : List ℕ} {x : Bits} → ((y z : Bits) → First g (members is) y → Follow g i z → Follow g b (join y z)) → Read is (after i) x → Read [] (after b) x
  followed down p = record {
    front = [];
    back = join p.front p.back;
    first = First.no_members;
    behind = down p.front p.back p.first p.behind;
    joined = p.joined ∙ sym (cut_once (p.front ++ p.back));
  }

  -- of a construct whose node is known
  at : {i : ℕ} {n : Node Context Values} {a : Bits} → g.node i ≡ n → First g (construct i n) a → First g (construct i (g.node i)) a
  at {i} {a = a} q f = subst (λ (m : Node Context Values). First g (construct i m) a) (sym q) f

  pub reads : {is : List ℕ} {r : Rest} {x : Bits} {l : List Step} → Spells g is r x l → Read is r (lookahead x)
  reads Spells.spelt = record { front = []; back = []; first = First.no_members; behind = refl; joined = refl }
  reads (Spells.by_field {i = i} {is = is} {r = r} {x = x} {y = y} bits q n a s e) = by (reads s)
    where
      by : Read is r (lookahead y) → Read (i ∷ is) r (lookahead x)
      by p = record {
        front = join (lookahead bits) p.front;
        back = p.back;
        first = First.more_members (at q (First.of_field bits n a refl)) p.first refl;
        behind = p.behind;
        joined = ap lookahead e ∙ (lookahead_append bits y ∙ (ap (join (lookahead bits)) p.joined ∙ sym (join_assoc (lookahead bits) p.front p.back)));
      }
  reads (Spells.by_eod {i = i} {is = is} {r = r} {x = x} q s) = by (reads s)
    where
      by : Read is r (lookahead x) → Read (i ∷ is) r (lookahead x)
      by p = record {
        front = join [] p.front;
        back = p.back;
        first = First.more_members (at q First.of_eod) p.first refl;
        behind = p.behind;
        joined = p.joined ∙ sym (join_front p.front p.back);
      }
  reads (Spells.by_branch q m s) = owned (λ a f. at q (First.of_alternative m f)) (reads s)
  reads (Spells.by_case q m s) = owned (λ a f. at q (First.of_switch m f)) (reads s)
  reads (Spells.by_no_case {i = i} {is = is} {r = r} {x = x} q o s) = by (reads s)
    where
      by : Read is r (lookahead x) → Read (i ∷ is) r (lookahead x)
      by p = record {
        front = join [] p.front;
        back = p.back;
        first = First.more_members (at q (First.of_no_case o)) p.first refl;
        behind = p.behind;
        joined = p.joined ∙ sym (join_front p.front p.back);
      }
  reads (Spells.by_use q s) = owned (λ a f. at q (First.of_use f)) (reads s)
  reads (Spells.by_members {ms = ms} q s) = gathered ms (λ a f. at q (First.of_concatenation f)) (reads s)
  reads (Spells.by_passes {b = b} k q a s) = gathered (replicate k b) (λ y f. at q (First.of_repetition k a (as_passes k f))) (reads s)
  reads (Spells.at_end e) = record { front = []; back = []; first = First.no_members; behind = Follow.of_start e; joined = refl }
  reads (Spells.after_rule q s) = moved (λ z f. Follow.of_rule q f) (reads s)
  reads (Spells.after_member before more q s) = followed (λ y z f w. Follow.of_member before more q f w refl) (reads s)
  reads (Spells.after_branch q m s) = moved (λ z f. Follow.of_branch q m f) (reads s)
  reads (Spells.after_case q m s) = moved (λ z f. Follow.of_case q m f) (reads s)
  reads (Spells.after_last_pass q s) = followed (λ y z f w. Follow.of_body zero q (as_passes zero f) w refl) (reads s)
  reads (Spells.after_pass k q s) = followed (λ y z f w. Follow.of_body (suc k) q (as_passes (suc k) f) w refl) (reads s)
