-- Chains, groups and switches.
-- Assumes nothing.
use Prim.Native.Nat.{ℕ, ◌+◌, ◌-◌, ◌≤◌, ◌<◌}
use mathlib.Core.Path.{◌≡◌, refl, sym, ap, subst, ◌∙◌}
use mathlib.Core.Logic.{⊎_elim}
use mathlib.Core.Bool.{Bool, true, false, not, ◌||◌}
use mathlib.Core.List.{List, [], ◌∷◌, ◌++◌}
use native.Mathlib.Omega.{arith}
use borrow.Author.Tests.{ne_eqb, lt-ltb, le-ltb}
use lib.Dec.{eqb}
use Rattle.basis.specs.Limits.{max_nesting, max_constructs}
use Rattle.basis.proofs.Booleans.{which}
use Rattle.text_parsing.specs.Terminals.{live}
use Rattle.text_store.specs.Store.{State, counted, put_node, put_condition}
use Rattle.text_parsing.specs.Symbols.{Symbol, want, condition, atom, factor, concatenation, expression, marked, members, branches, colon, case_end, cases, switch_end}
use Rattle.text_parsing.specs.Form.{go, atom_begins, chained, consume}
use Rattle.text_parsing.specs.Cursors.{terminal_at, state_at, next, fail, node_more, resume, left, Reads, ReadsTerms, ReadsOn, ReadsNodes}
use Rattle.text_parsing.specs.declared.Cursor.{Cursor}
use Rattle.text_parsing.proofs.Resuming.{skips, takes, left_falls, left_some, left_dead, dead_same}
use Rattle.text_parsing.proofs.Steps.{then, take_then, skip_then, nothing, fault_only}
use Rattle.text_syntax.proofs.Atoms.{take_node}

-- a loop's turns: what waits may change
pub record Moves (xs : List ℕ) (ps : List Symbol) (c : Cursor) (ns ts : List ℕ) (qs : List Symbol) (r : Cursor) (ns' ts' : List ℕ) : Type 0 where
  pub same : (rs : List ℕ) (ks : List Symbol) → resume xs c ns ts rs (ps ++ ks) ≡ resume xs r ns' ts' rs (qs ++ ks)
  pub falls : left xs r ≤ left xs c

pub moves_start : {xs : List ℕ} {ps : List Symbol} {c : Cursor} {ns ts : List ℕ} → Moves xs ps c ns ts ps c ns ts
moves_start = record { same = λ rs ks. refl; falls = omega arith }

pub moves_take : {xs : List ℕ} {ps qs us vs : List Symbol} {c₀ c m r : Cursor} {ns₀ ts₀ ns ts ns' ts' : List ℕ} → Moves xs ps c₀ ns₀ ts₀ qs c ns ts → live c.code ≡ true → m ≡ next xs c → ((rs : List ℕ) (ks : List Symbol) → consume (terminal_at c) (state_at c ns ts rs) (qs ++ ks) ≡ go (state_at c ns ts rs) (us ++ (vs ++ ks))) → Reads xs us m ns ts r ns' ts' → Moves xs ps c₀ ns₀ ts₀ vs r ns' ts'
moves_take {xs} {ps} {qs} {us} {vs} {c₀} {c} {m} {r} {ns₀} {ts₀} {ns} {ts} {ns'} {ts'} s l e f a =
    let b : Reads xs us (next xs c) ns ts r ns' ts' = subst (λ (k : Cursor). Reads xs us k ns ts r ns' ts') e a
    in record {
      same = λ rs ks. s.same rs ks ∙ takes xs (terminal_at c) (state_at c ns ts rs) (state_at c ns ts rs) (qs ++ ks) (us ++ (vs ++ ks)) l (f rs ks) ∙ b.reads rs (vs ++ ks);
      falls = omega (arith, s.falls, left_falls xs (terminal_at c) l, b.falls);
    }

pub moves_skip : {xs : List ℕ} {ps qs us vs : List Symbol} {c₀ c r : Cursor} {ns₀ ts₀ ns ts ns' ts' : List ℕ} → Moves xs ps c₀ ns₀ ts₀ qs c ns ts → ((rs : List ℕ) (ks : List Symbol) → consume (terminal_at c) (state_at c ns ts rs) (qs ++ ks) ≡ consume (terminal_at c) (state_at c ns ts rs) (us ++ (vs ++ ks))) → Reads xs us c ns ts r ns' ts' → Moves xs ps c₀ ns₀ ts₀ vs r ns' ts'
moves_skip {xs} {ps} {qs} {us} {vs} {c₀} {c} {r} {ns₀} {ts₀} {ns} {ts} {ns'} {ts'} s f a =
    record {
      same = λ rs ks. s.same rs ks ∙ skips xs (terminal_at c) (state_at c ns ts rs) (state_at c ns ts rs) (qs ++ ks) (us ++ (vs ++ ks)) (f rs ks) ∙ a.reads rs (vs ++ ks);
      falls = omega (arith, s.falls, a.falls);
    }

pub moves_end : {xs : List ℕ} {ps qs : List Symbol} {c₀ c r : Cursor} {ns₀ ts₀ ns ts ns' ts' : List ℕ} → Moves xs ps c₀ ns₀ ts₀ qs c ns ts → Reads xs qs c ns ts r ns' ts' → Reads xs ps c₀ ns₀ ts₀ r ns' ts'
moves_end s a = record { reads = λ rs ks. s.same rs ks ∙ a.reads rs ks; falls = omega (arith, s.falls, a.falls) }

-- parts end with a change of the state that nothing is read for
pub skip_state : {xs : List ℕ} {ps : List Symbol} {c r : Cursor} {ns ts ns' ts' : List ℕ} (f : State → State) → terminal_at r ≡ terminal_at c → ((rs : List ℕ) → state_at r ns' ts' rs ≡ f (state_at c ns ts rs)) → ((rs : List ℕ) (ks : List Symbol) → consume (terminal_at c) (state_at c ns ts rs) (ps ++ ks) ≡ consume (terminal_at c) (f (state_at c ns ts rs)) ks) → Reads xs ps c ns ts r ns' ts'
skip_state {xs} {ps} {c} {r} {ns} {ts} {ns'} {ts'} f z w g =
    skip_then {qs = []} {m = r} {ns₁ = ns'} {ts₁ = ts'} z (λ rs ks. g rs ks ∙ ap (λ (st : State). consume (terminal_at c) st ks) (sym (w rs))) nothing

-- ---- alternatives and concatenations

module _ {xs : List ℕ} {c m k r : Cursor} {ns ts ns₁ ts₁ ns₂ ts₂ ns' : List ℕ} (d : ℕ) (many : Bool) where
  pub expression_reads : Reads xs (concatenation d ∷ []) c ns ts m ns₁ ts₁ → Moves xs (branches d c.start c.nodes false ∷ []) m ns₁ ts₁ (branches d c.start c.nodes many ∷ []) k ns₂ ts₂ → (k.code ≡ 124 → ⊥) → terminal_at r ≡ terminal_at k → ((ts rs : List ℕ) → state_at r ns' ts rs ≡ chained 1 many c.start c.nodes (state_at k ns₂ ts rs)) → Reads xs (expression d ∷ []) c ns ts r ns' ts₂
  unfolding consume
  expression_reads a s h z w =
      skip_then {qs = concatenation d ∷ branches d c.start c.nodes false ∷ []} {m = c} refl (λ rs ks. refl)
      (then a (moves_end s (skip_state (chained 1 many c.start c.nodes) z (w ts₂) (λ rs ks. rw (ne_eqb k.code 124 h, consume)))))

  pub concatenation_reads : Reads xs (factor d ∷ []) c ns ts m ns₁ ts₁ → Moves xs (members d c.start c.nodes false ∷ []) m ns₁ ts₁ (members d c.start c.nodes many ∷ []) k ns₂ ts₂ → (k.code ≡ 38 → ⊥) → terminal_at r ≡ terminal_at k → ((ts rs : List ℕ) → state_at r ns' ts rs ≡ chained 2 many c.start c.nodes (state_at k ns₂ ts rs)) → Reads xs (concatenation d ∷ []) c ns ts r ns' ts₂
  unfolding consume
  concatenation_reads a s h z w =
      skip_then {qs = factor d ∷ members d c.start c.nodes false ∷ []} {m = c} refl (λ rs ks. refl)
      (then a (moves_end s (skip_state (chained 2 many c.start c.nodes) z (w ts₂) (λ rs ks. rw (ne_eqb k.code 38 h, consume)))))

module _ {xs : List ℕ} {ps : List Symbol} {c₀ c m r : Cursor} {ns₀ ts₀ ns ts ns' ts' : List ℕ} (d p i : ℕ) (many : Bool) where
  pub branches_turn : Moves xs ps c₀ ns₀ ts₀ (branches d p i many ∷ []) c ns ts → c.code ≡ 124 → m ≡ next xs c → Reads xs (concatenation d ∷ []) m ns ts r ns' ts' → Moves xs ps c₀ ns₀ ts₀ (branches d p i true ∷ []) r ns' ts'
  unfolding consume
  branches_turn s e n a = moves_take {us = concatenation d ∷ []} s (rw e refl) n (λ rs ks. rw (e, consume)) a

  pub members_turn : Moves xs ps c₀ ns₀ ts₀ (members d p i many ∷ []) c ns ts → c.code ≡ 38 → m ≡ next xs c → Reads xs (factor d ∷ []) m ns ts r ns' ts' → Moves xs ps c₀ ns₀ ts₀ (members d p i true ∷ []) r ns' ts'
  unfolding consume
  members_turn s e n a = moves_take {us = factor d ∷ []} s (rw e refl) n (λ rs ks. rw (e, consume)) a

pub factor_reads : {xs : List ℕ} {c m r : Cursor} {ns ts ns₁ ts₁ ns' ts' : List ℕ} (d : ℕ) → Reads xs (atom d ∷ []) c ns ts m ns₁ ts₁ → Reads xs (marked c.start c.nodes ∷ []) m ns₁ ts₁ r ns' ts' → Reads xs (factor d ∷ []) c ns ts r ns' ts'
unfolding consume
factor_reads {xs} {c} d a b = skip_then {qs = atom d ∷ marked c.start c.nodes ∷ []} {m = c} refl (λ rs ks. refl) (then a b)

-- ---- groups and switches

module _ {xs : List ℕ} {c m k r : Cursor} {ns ts ns' ts' : List ℕ} (d : ℕ) where
  pub atom_group : c.code ≡ 40 → d < max_nesting → m ≡ next xs c → Reads xs (expression (d + 1) ∷ []) m ns ts k ns' ts' → ReadsOn xs (want 41 ∷ []) k r → Reads xs (atom d ∷ []) c ns ts r ns' ts'
  unfolding consume atom_begins
  atom_group e h n a w = take_then {qs = expression (d + 1) ∷ want 41 ∷ []} (rw e refl) n (λ rs ks. rw (e, lt-ltb d max_nesting h)) (then a (w ns' ts'))

module _ {xs : List ℕ} {c m r : Cursor} {ns ts ns' ts' : List ℕ} (d : ℕ) where
  pub atom_switch : c.code ≡ 91 → d < max_nesting → m ≡ next xs c → Reads xs (condition (d + 1) ∷ colon (d + 1) m.terms ∷ cases (d + 1) c.start c.nodes ∷ []) m ns ts r ns' ts' → Reads xs (atom d ∷ []) c ns ts r ns' ts'
  unfolding consume atom_begins
  atom_switch e h n a =
      let b : Reads xs (condition (d + 1) ∷ colon (d + 1) c.terms ∷ cases (d + 1) c.start c.nodes ∷ []) (next xs c) ns ts r ns' ts' = subst (λ (k : Cursor). Reads xs (condition (d + 1) ∷ colon (d + 1) k.terms ∷ cases (d + 1) c.start c.nodes ∷ []) k ns ts r ns' ts') n a
      in take_then {qs = condition (d + 1) ∷ colon (d + 1) c.terms ∷ cases (d + 1) c.start c.nodes ∷ []} (rw e refl) refl (λ rs ks. rw (e, lt-ltb d max_nesting h)) b

module _ {xs : List ℕ} {c r : Cursor} {ns ts : List ℕ} (d : ℕ) where
  pub group_deep : c.code ≡ 40 → max_nesting ≤ d → r ≡ fail c → Reads xs (atom d ∷ []) c ns ts r ns ts
  unfolding consume atom_begins
  group_deep e h n = fault_only n (λ rs ks. rw (e, le-ltb d max_nesting h))

  pub switch_deep : c.code ≡ 91 → max_nesting ≤ d → r ≡ fail c → Reads xs (atom d ∷ []) c ns ts r ns ts
  unfolding consume atom_begins
  switch_deep e h n = fault_only n (λ rs ks. rw (e, le-ltb d max_nesting h))

pub case_ends : {xs : List ℕ} {c r : Cursor} {ns ns' : List ℕ} (i f end : ℕ) → ns' ≡ put_condition ns i f end → ReadsOn xs (want 59 ∷ []) c r → ReadsNodes xs (case_end i f end ∷ []) c ns r ns'
unfolding consume
case_ends {xs} {c} {r} {ns} {ns'} i f end z a ts =
    subst (λ (l : List ℕ). Reads xs (case_end i f end ∷ []) c ns ts r l ts) (sym z)
    (skip_then {qs = want 59 ∷ []} {m = c} {ns₁ = put_condition ns i f end} {ts₁ = ts} refl (λ rs ks. refl) (a (put_condition ns i f end) ts))

module _ {xs : List ℕ} {c a b k r : Cursor} {ns ts ns₁ ts₁ ts' ns' : List ℕ} (d : ℕ) where
  pub case_reads : ReadsTerms xs (condition d ∷ []) c ts a ts₁ → ReadsOn xs (want 58 ∷ []) a b → Reads xs (expression d ∷ []) b ns ts₁ k ns₁ ts' → ReadsNodes xs (case_end a.nodes c.terms a.terms ∷ []) k ns₁ r ns' → Reads xs (condition d ∷ colon d c.terms ∷ []) c ns ts r ns' ts'
  unfolding consume
  case_reads x y z w =
      then (x ns)
      (skip_then {qs = want 58 ∷ expression d ∷ case_end a.nodes c.terms a.terms ∷ []} {m = a} refl (λ rs ks. refl) (then (y ns ts₁) (then z (w ts'))))

module _ {xs : List ℕ} {c m r : Cursor} {ns ns' : List ℕ} (p i : ℕ) where
  pub switch_ends : c.code ≡ 93 → m ≡ node_more c → ns' ≡ put_node ns i 4 (counted max_constructs c.nodes - i) p 0 0 0 0 0 → r ≡ next xs m → ReadsNodes xs (switch_end p i ∷ []) c ns r ns'
  unfolding consume
  switch_ends e z w n = take_node i 4 p 0 0 0 0 0 (rw e refl) z w n (λ ts rs ks. rw (e, consume))

pub switch_end_fault : {xs : List ℕ} {c r : Cursor} {ns : List ℕ} (p i : ℕ) → (c.code ≡ 93 → ⊥) → r ≡ fail c → ReadsNodes xs (switch_end p i ∷ []) c ns r ns
unfolding consume
switch_end_fault {c = c} p i h n ts = fault_only n (λ rs ks. rw (ne_eqb c.code 93 h, consume))

-- neither the end of a switch nor its default
no_default : (a b c : Bool) → not (a || (b || c)) ≡ true → b ≡ false
no_default true b c e = let z : ◌≡◌ {A = ℕ} 0 1 = cc in absurd (omega arith)
no_default false true c e = let z : ◌≡◌ {A = ℕ} 0 1 = cc in absurd (omega arith)
no_default false false c e = refl

no_end : (a b c : Bool) → not (a || (b || c)) ≡ true → c ≡ false
no_end true b c e = let z : ◌≡◌ {A = ℕ} 0 1 = cc in absurd (omega arith)
no_end false true c e = let z : ◌≡◌ {A = ℕ} 0 1 = cc in absurd (omega arith)
no_end false false true e = let z : ◌≡◌ {A = ℕ} 0 1 = cc in absurd (omega arith)
no_end false false false e = refl

not_failed : (a b c : Bool) → not (a || (b || c)) ≡ true → a ≡ false
not_failed true b c e = let z : ◌≡◌ {A = ℕ} 0 1 = cc in absurd (omega arith)
not_failed false b c e = refl

failed_then : (a b c : Bool) → not (a || (b || c)) ≡ false → b ≡ false → c ≡ false → a ≡ true
failed_then true b c e f g = refl
failed_then false true c e f g = let z : ◌≡◌ {A = ℕ} 0 1 = cc in absurd (omega arith)
failed_then false false true e f g = let z : ◌≡◌ {A = ℕ} 0 1 = cc in absurd (omega arith)
failed_then false false false e f g = let z : ◌≡◌ {A = ℕ} 0 1 = cc in absurd (omega arith)

abbrev pub goes_on : ℕ → Bool
goes_on code = not (eqb code 0 || (eqb code 58 || eqb code 93))

pub on_live : (n : ℕ) → goes_on n ≡ true → eqb n 0 ≡ false
on_live n e = not_failed (eqb n 0) (eqb n 58) (eqb n 93) e

module _ {xs : List ℕ} {ps : List Symbol} {c₀ c r : Cursor} {ns₀ ts₀ ns ts ns' ts' : List ℕ} (d p i : ℕ) where
  pub cases_turn : Moves xs ps c₀ ns₀ ts₀ (cases d p i ∷ []) c ns ts → goes_on c.code ≡ true → Reads xs (condition d ∷ colon d c.terms ∷ []) c ns ts r ns' ts' → Moves xs ps c₀ ns₀ ts₀ (cases d p i ∷ []) r ns' ts'
  unfolding consume
  cases_turn s e a =
      moves_skip {us = condition d ∷ colon d c.terms ∷ []} s
      (λ rs ks. rw (no_end (eqb c.code 0) (eqb c.code 58) (eqb c.code 93) e, consume) (rw (no_default (eqb c.code 0) (eqb c.code 58) (eqb c.code 93) e) refl))
      a

module _ {xs : List ℕ} {c m a k r : Cursor} {ns ts ns₁ ts' ns' : List ℕ} (d p i : ℕ) where
  pub ending_default : c.code ≡ 58 → m ≡ next xs c → Reads xs (expression d ∷ []) m ns ts a ns₁ ts' → ReadsOn xs (want 59 ∷ []) a k → ReadsNodes xs (switch_end p i ∷ []) k ns₁ r ns' → Reads xs (cases d p i ∷ []) c ns ts r ns' ts'
  unfolding consume
  ending_default e n x y z = take_then {qs = expression d ∷ want 59 ∷ switch_end p i ∷ []} (rw e refl) n (λ rs ks. rw (e, consume) (rw e refl)) (then x (then (y ns₁ ts') (z ts')))

pub ending_plain : {xs : List ℕ} {c r : Cursor} {ns ts ns' : List ℕ} (d p i : ℕ) → goes_on c.code ≡ false → (c.code ≡ 58 → ⊥) → ReadsNodes xs (switch_end p i ∷ []) c ns r ns' → Reads xs (cases d p i ∷ []) c ns ts r ns' ts
unfolding consume
ending_plain {xs} {c} {r} {ns} {ts} {ns'} d p i e h a =
    ⊎_elim (λ (q : eqb c.code 93 ≡ true). skip_then {qs = switch_end p i ∷ []} {m = c} refl (λ rs ks. rw (q, consume)) (a ts))
    (λ (q : eqb c.code 93 ≡ false).
    record {
      reads = λ rs ks.
          dead_same xs (terminal_at c) (state_at c ns ts rs) (state_at c ns ts rs) (cases d p i ∷ ks) (switch_end p i ∷ ks) (failed_then (eqb c.code 0) (eqb c.code 58) (eqb c.code 93) e (ne_eqb c.code 58 h) q)
          ∙ (a ts).reads rs ks;
      falls = (a ts).falls;
    })
    (which (eqb c.code 93))

pub switch_reads : {xs : List ℕ} {c m k r : Cursor} {ns ts ns₁ ts₁ ns₂ ts₂ ns' ts' : List ℕ} (d p i : ℕ) → Reads xs (condition d ∷ colon d c.terms ∷ []) c ns ts m ns₁ ts₁ → Moves xs (cases d p i ∷ []) m ns₁ ts₁ (cases d p i ∷ []) k ns₂ ts₂ → Reads xs (cases d p i ∷ []) k ns₂ ts₂ r ns' ts' → Reads xs (condition d ∷ colon d c.terms ∷ cases d p i ∷ []) c ns ts r ns' ts'
switch_reads d p i a s b = then a (moves_end s b)

pub case_falls : (xs : List ℕ) (c a b k r : Cursor) → left xs a ≤ left xs c → (eqb a.code 0 ≡ false → left xs b < left xs a) → left xs k ≤ left xs b → left xs r ≤ left xs k → (left xs b ≤ left xs a) → eqb c.code 0 ≡ false → left xs r < left xs c
case_falls xs c a b k r x y z w v e =
    ⊎_elim (λ (q : eqb a.code 0 ≡ true). omega (arith, left_dead xs (terminal_at a) q, left_some xs (terminal_at c) e)) (λ (q : eqb a.code 0 ≡ false). omega (arith, y q)) (which (eqb a.code 0))

pub chained_many : (c r : Cursor) (ns ns' : List ℕ) (kind p i : ℕ) (many : Bool) → many ≡ true → r ≡ node_more c → ns' ≡ put_node ns i kind (counted max_constructs c.nodes - i) p 0 0 0 0 0 → (terminal_at r ≡ terminal_at c) × ((ts rs : List ℕ) → state_at r ns' ts rs ≡ chained kind many p i (state_at c ns ts rs))
chained_many c r ns ns' kind p i many e z w =
    (ap terminal_at z, λ ts rs. rw e (ap (λ (q : Cursor). state_at q ns' ts rs) z ∙ ap (λ (l : List ℕ). state_at (node_more c) l ts rs) w))

pub chained_one : (c : Cursor) (ns : List ℕ) (kind p i : ℕ) (many : Bool) → many ≡ false → (terminal_at c ≡ terminal_at c) × ((ts rs : List ℕ) → state_at c ns ts rs ≡ chained kind many p i (state_at c ns ts rs))
chained_one c ns kind p i many e = (refl, λ ts rs. rw e refl)
