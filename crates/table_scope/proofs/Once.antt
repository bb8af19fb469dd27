-- What a construct sees, nothing below it binds, through the rules that it uses either.
-- Assumes nothing.
use Prim.Native.Nat.{ℕ, zero, suc, ◌+◌, ◌≤◌, ◌<◌}
use mathlib.Core.Path.{◌≡◌, sym, subst, ap, ◌∙◌}
use mathlib.Core.Logic.{inl, inr}
use mathlib.Core.List.Memᴰ
use mathlib.Core.List.{List, [], ◌∷◌}
use native.Mathlib.Omega.{arith}
use borrow.Author.Tests.{ltb-true, ltb-false}
use lib.Dec.{ltb}
use Rattle.basis.proofs.Booleans.{which}
use Rattle.theory.specs.Grammar.{◌∈◌}
use Rattle.theory.specs.Scope.{MayBind}
use Rattle.table_layout.specs.Places.{construct_count, variable_word}
use Rattle.table_layout.specs.Constructs.{construct_at}
use Rattle.table_layout.specs.Held.{Context, held, opening}
use Rattle.table_wellformed.specs.Checks.{size_at}
use Rattle.table_wellformed.specs.Rules.{body, rule_end, binder_of}
use Rattle.table_reach.specs.Reaching.{Uses, Reaches, directly, through, Acyclic}
use Rattle.table_weights.proofs.Children.{All, Each, Child, held_children}
use Rattle.table_structure.proofs.Facts.{Laid}
use Rattle.table_structure.proofs.RuleLaws.{rule_of, rule_fact}
use Rattle.table_structure.proofs.Owners.{rule_holds}
use Rattle.table_structure.proofs.Binding.{top_binder}
use Rattle.table_scope.specs.Scope.{store, bound_by, bound_at, bound_before, seen_at, scope_of}
use Rattle.table_scope.proofs.RuledLaw.{ruled_of}
use Rattle.table_scope.proofs.Seen.{before_from, seen_in, seen_outside}
use Rattle.table_scope.proofs.Levels.{Stands, stands, stands_within, one_of}

-- a construct, or something below it through the rules that it uses, binds the variable
abbrev pub Below : List ℕ → Context → ℕ → ℕ → Type 0
Below ws c i x = MayBind store (scope_of ws) (held ws) c i x

-- a construct's name is 1 + its variable
named : (n x : ℕ) → x ∈ bound_by n → (0 < n) × (n ≡ x)
named zero x m = absurd (Memᴰ.not-nil m)
named (suc y) x m = (omega arith, sym (Memᴰ.eq_of_singleton m))

-- nothing binds name 0
pub no_zero : (ws : List ℕ) {c : Context} (i x : ℕ) → x ≡ 0 → Below ws c i x → ⊥
no_zero ws i x z (MayBind.itself {x = y} m e) = let n = named (binder_of (construct_at ws i)) y m in omega (arith, n.0, n.1, e)
no_zero ws i x z (MayBind.entering e f m k) = Memᴰ.not-nil m
no_zero ws i x z (MayBind.in_branch {b = b} e m d) = no_zero ws b x z d
no_zero ws i x z (MayBind.in_member {m = b} e m d) = no_zero ws b x z d
no_zero ws i x z (MayBind.in_body {b = b} e d) = no_zero ws b x z d
no_zero ws i x z (MayBind.in_case {b = b} e m d) = no_zero ws b x z d
no_zero ws i x z (MayBind.in_rule {b = b} e f d) = no_zero ws b x z d

-- where x is bound below construct i of rule r: in rule r from i on, or in a rule that r reaches
data Place (ws : List ℕ) (r i x : ℕ) : Type 0 where
  behind : (k : ℕ) → i ≤ k → Stands ws r k → x ∈ bound_at ws k → Place ws r i x
  away : (p k : ℕ) → Reaches ws r p → Stands ws p k → x ∈ bound_at ws k → Place ws r i x

at_member : (P : ℕ → Type 0) (is : List ℕ) (b : ℕ) → b ∈ is → All P is → P b
at_member P [] b m a = absurd (Memᴰ.not-nil m)
at_member P (j ∷ is) b (Memᴰ.head e) a = rw e a.0
at_member P (j ∷ is) b (Memᴰ.tail m) a = at_member P is b m a.1

from_part : (ws : List ℕ) (r i b x : ℕ) → i ≤ b → Place ws r b x → Place ws r i x
from_part ws r i b x low (behind k a s m) = behind k (omega arith) s m
from_part ws r i b x low (away p k q s m) = away p k q s m

from_rule : (ws : List ℕ) (r i b p x : ℕ) → Uses ws r p → Place ws p b x → Place ws r i x
from_rule ws r i b p x u (behind k a s m) = away p k (directly u) s m
from_rule ws r i b p x u (away q k d s m) = away q k (through u d) s m

module _ {ws : List ℕ} (l : Laid ws) where
  below_child : (r i b x : ℕ) → Stands ws r i → i + size_at ws i ≤ rule_end ws r 0 → Child ws i b
      → ((q : ℕ) → Stands ws q b → b + size_at ws b ≤ rule_end ws q 0 → Place ws q b x) → Place ws r i x
  below_child r i b x s whole (Child.inside low high positive) on =
      from_part ws r i b x (omega arith) (on r (record { exists = s.exists; begins = omega (arith, s.begins); ends = omega arith }) (omega arith))
  below_child r i b x s whole (Child.opened p e h same) on =
      let f = rule_fact l p h
      in let g : size_at ws b ≡ size_at ws (body ws p) = ap (size_at ws) same
      in from_rule ws r i b p x (record { at = i; rule = s.exists; from = s.begins; upto = s.ends; used = e })
      (on p (record { exists = h; begins = omega arith; ends = omega (arith, f.some_construct) }) (omega (arith, f.ends)))

  children : (r i : ℕ) → Stands ws r i → Each (Child ws i) ((held ws).node i)
  children r i s =
      let h : i < construct_count ws = stands_within l r i s
      in held_children ws (ruled_of l) (Child ws i) i (λ e. let f : i ≡ opening = e in absurd (omega (arith, l.counts.constructs))) (λ k c. c)

  place : {c : Context} (r i x : ℕ) → Stands ws r i → i + size_at ws i ≤ rule_end ws r 0 → Below ws c i x → Place ws r i x
  place r i x s whole (MayBind.itself m e) = behind i (omega arith) s (subst (λ (y : ℕ). y ∈ bound_at ws i) (sym e) m)
  place r i x s whole (MayBind.entering e f m k) = absurd (Memᴰ.not-nil m)
  place r i x s whole (MayBind.in_branch {b = b} {is = is} e m d) = below_child r i b x s whole (at_member (Child ws i) is b m (rw e at (children r i s))) (λ q t w. place q b x t w d)
  place r i x s whole (MayBind.in_member {m = b} {is = is} e m d) = below_child r i b x s whole (at_member (Child ws i) is b m (rw e at (children r i s))) (λ q t w. place q b x t w d)
  place r i x s whole (MayBind.in_body {b = b} e d) = below_child r i b x s whole (rw e at (children r i s)) (λ q t w. place q b x t w d)
  place r i x s whole (MayBind.in_case {b = b} {is = is} e m d) = below_child r i b x s whole (at_member (Child ws i) is b m (rw e at (children r i s))) (λ q t w. place q b x t w d)
  place r i x s whole (MayBind.in_rule {b = b} e f d) = below_child r i b x s whole (rw e at (children r i s)) (λ q t w. place q b x t w d)

  -- a variable has one binder, which it names back
  one_binder : (j k x : ℕ) → j < construct_count ws → k < construct_count ws → x ∈ bound_at ws j → x ∈ bound_at ws k → j ≡ k
  one_binder j k x hj hk mj mk =
      let nj = named (binder_of (construct_at ws j)) x mj
      in let nk = named (binder_of (construct_at ws k)) x mk
      in let tj = top_binder l j hj nj.0
      in let tk = top_binder l k hk nk.0
      in let same : tj.variable ≡ tk.variable = omega (arith, nj.1, nk.1, tj.binder, tk.binder)
      in sym tj.place ∙ ap (λ (y : ℕ). variable_word ws y 0) same ∙ tk.place

  clash : (r i j x : ℕ) → Acyclic ws → Stands ws r j → j < i → x ∈ bound_at ws j → Place ws r i x → ⊥
  clash r i j x acyclic s low m (behind k a t n) = omega (arith, one_binder j k x (stands_within l r j s) (stands_within l r k t) m n)
  clash r i j x acyclic s low m (away p k d t n) =
      let e : j ≡ k = one_binder j k x (stands_within l r j s) (stands_within l p k t) m n
      in let f : r ≡ p = one_of l r p k (rw e at s) t
      in acyclic r (subst (λ (q : ℕ). Reaches ws r q) (sym f) d)

  seen_once : {c : Context} (i x : ℕ) (h : i < construct_count ws) → Acyclic ws → x ∈ 0 ∷ bound_before ws (body ws (rule_of l i h).rule) i → Below ws c i x → ⊥
  seen_once i x h acyclic (Memᴰ.head e) d = no_zero ws i x e d
  seen_once i x h acyclic (Memᴰ.tail m) d =
      let r : ℕ = (rule_of l i h).rule
      in let s : Stands ws r i = stands l i h
      in let b = before_from ws (body ws r) x i m
      in clash r i b.binder x acyclic (record { exists = s.exists; begins = b.from; ends = omega (arith, b.upto, s.ends) }) b.upto b.binds (place r i x s (rule_holds l i h) d)

  pub not_again : Acyclic ws → {c : Context} (i x : ℕ) → x ∈ seen_at ws i → Below ws c i x → ⊥
  not_again acyclic i x m d =
      elim (which (ltb i (construct_count ws))) [
        | inl t ↦
            let h : i < construct_count ws = ltb-true i (construct_count ws) t
            in let s = stands l i h
            in seen_once i x h acyclic (rw (seen_in l (rule_of l i h).rule i s.exists s.begins s.ends) at m) d
        | inr t ↦ no_zero ws i x (Memᴰ.eq_of_singleton (rw (seen_outside l i (ltb-false i (construct_count ws) t)) at m)) d
      ]
