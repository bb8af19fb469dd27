-- Items of expressions and repetition marks: what each does with the next terminal.
-- Assumes nothing.
use Prim.Native.Nat.{ℕ, ◌+◌, ◌-◌}
use mathlib.Core.Path.{◌≡◌, refl, sym, ap, subst, ◌∙◌}
use mathlib.Core.Bool.{true, false, cond, not}
use mathlib.Core.List.{List, [], ◌∷◌, ◌++◌}
use borrow.Author.Tests.{eq-eqb, ne_eqb}
use lib.Dec.{eqb}
use Rattle.basis.specs.Limits.{max_constructs}
use Rattle.text_parsing.specs.Terminals.{name_like, live}
use Rattle.text_store.specs.Store.{counted, put_node, insert}
use Rattle.text_parsing.specs.Symbols.{Symbol, want, value_set, counts, paren, atom, marked, counts_end, character_tail, last_character, width, field_set, bound_name, field_end}
use Rattle.text_parsing.specs.Form.{go, atom_begins, mark_of, consume}
use Rattle.text_parsing.specs.Cursors.{terminal_at, state_at, next, fail, node_more, binder_more, Reads, ReadsTerms, ReadsOn, ReadsNodes}
use Rattle.text_parsing.specs.declared.Cursor.{Cursor}
use Rattle.text_parsing.proofs.Steps.{then, take_then, take_more, take_only, skip_then, nothing, fault_only}
use Rattle.text_parsing.proofs.Loops.{name_not, name_live, test_live}

-- a terminal that is taken is a node in front of node i
pub take_node : {xs : List ℕ} {ps : List Symbol} {c m r : Cursor} {ns ns' : List ℕ} (i kind place a b f e how : ℕ) → live c.code ≡ true → m ≡ node_more c → ns' ≡ put_node ns i kind (counted max_constructs c.nodes - i) place a b f e how → r ≡ next xs m → ((ts rs : List ℕ) (ks : List Symbol) → consume (terminal_at c) (state_at c ns ts rs) (ps ++ ks) ≡ go (insert kind place i a b f e how (state_at c ns ts rs)) ks) → ReadsNodes xs ps c ns r ns'
take_node {xs} {ps} {c} {m} {r} {ns} {ns'} i kind place a b f e how l z w n g ts =
    subst (λ (k : List ℕ). Reads xs ps c ns ts r k ts) (sym w) (take_only {d = node_more c} l (n ∙ ap (next xs) z) refl (λ rs ks. g ts rs ks))

-- ---- ranges of characters

module _ {xs : List ℕ} {c m r : Cursor} {ns ns' : List ℕ} (p : ℕ) where
  pub last_reads : c.code ≡ 9 → m ≡ node_more c → ns' ≡ put_node ns c.nodes 7 (counted max_constructs c.nodes - c.nodes) p c.start 0 0 0 0 → r ≡ next xs m → ReadsNodes xs (last_character p ∷ []) c ns r ns'
  unfolding consume
  last_reads e z w n = take_node c.nodes 7 p c.start 0 0 0 0 (rw e refl) z w n (λ ts rs ks. rw (e, consume))

  pub range_reads : c.code ≡ 126 → m ≡ next xs c → ReadsNodes xs (last_character p ∷ []) m ns r ns' → ReadsNodes xs (character_tail p ∷ []) c ns r ns'
  unfolding consume
  range_reads e n a ts = take_then {qs = last_character p ∷ []} (rw e refl) n (λ rs ks. rw (e, consume)) (a ts)

pub last_fault : {xs : List ℕ} {c r : Cursor} {ns : List ℕ} (p : ℕ) → (c.code ≡ 9 → ⊥) → r ≡ fail c → ReadsNodes xs (last_character p ∷ []) c ns r ns
unfolding consume
last_fault {c = c} p h n ts = fault_only n (λ rs ks. rw (ne_eqb c.code 9 h, consume))

pub character_reads : {xs : List ℕ} {c r : Cursor} {ns ns' : List ℕ} (p : ℕ) → (c.code ≡ 126 → ⊥) → r ≡ node_more c → ns' ≡ put_node ns c.nodes 6 (counted max_constructs c.nodes - c.nodes) p 0 0 0 0 0 → ReadsNodes xs (character_tail p ∷ []) c ns r ns'
unfolding consume
character_reads {xs} {c} {r} {ns} {ns'} p h z w ts =
    subst (λ (q : Cursor). Reads xs (character_tail p ∷ []) c ns ts q ns' ts) (sym z)
    (subst (λ (k : List ℕ). Reads xs (character_tail p ∷ []) c ns ts (node_more c) k ts) (sym w)
    (skip_then {qs = []} {m = node_more c} {ns₁ = put_node ns c.nodes 6 (counted max_constructs c.nodes - c.nodes) p 0 0 0 0 0} {ts₁ = ts} refl (λ rs ks. rw (ne_eqb c.code 126 h, consume)) nothing))

-- ---- uint

module _ {xs : List ℕ} {c m r : Cursor} {ns ns' : List ℕ} (p w name how f : ℕ) where
  pub field_ends : c.code ≡ 41 → m ≡ node_more c → ns' ≡ put_node ns c.nodes 8 (counted max_constructs c.nodes - c.nodes) p w name f c.terms how → r ≡ next xs m → ReadsNodes xs (field_end p w name how f ∷ []) c ns r ns'
  unfolding consume
  field_ends e z q n = take_node c.nodes 8 p w name f c.terms how (rw e refl) z q n (λ ts rs ks. rw (e, consume))

pub field_end_fault : {xs : List ℕ} {c r : Cursor} {ns : List ℕ} (p w name how f : ℕ) → (c.code ≡ 41 → ⊥) → r ≡ fail c → ReadsNodes xs (field_end p w name how f ∷ []) c ns r ns
unfolding consume
field_end_fault {c = c} p w name how f h n ts = fault_only n (λ rs ks. rw (ne_eqb c.code 41 h, consume))

module _ {xs : List ℕ} {c b m k l e r : Cursor} {ns ts ts' ns' : List ℕ} (d p w : ℕ) {how : ℕ} where
  pub bound_reads : name_like c.code ≡ true → b ≡ binder_more c → m ≡ next xs b → ReadsOn xs (want 44 ∷ []) m k → ReadsTerms xs (value_set d ∷ []) k ts l ts' → ReadsOn xs (want 41 ∷ []) l e → how ≡ cond (eqb d 2) 1 2 → ReadsNodes xs (field_end p w c.start how c.terms ∷ []) e ns r ns' → Reads xs (bound_name d p w ∷ []) c ns ts r ns' ts'
  unfolding consume
  bound_reads t z n a s q o g =
      take_more {qs = want 44 ∷ value_set d ∷ want 41 ∷ field_end p w c.start how c.terms ∷ []} {d = binder_more c} {ns₁ = ns} {ts₁ = ts} (name_live c.code t) (n ∙ ap (next xs) z) refl
      (λ rs ks. rw (t, consume) (rw o refl))
      (then (a ns ts) (then (s ns) (then (q ns ts') (g ts'))))

pub bound_fault : {xs : List ℕ} {c r : Cursor} {ns ts : List ℕ} (d p w : ℕ) → name_like c.code ≡ false → r ≡ fail c → Reads xs (bound_name d p w ∷ []) c ns ts r ns ts
unfolding consume
bound_fault {c = c} d p w h n = fault_only n (λ rs ks. rw (h, consume))

module _ {xs : List ℕ} {c m k r : Cursor} {ns ts ns' ts' : List ℕ} (d p w : ℕ) where
  pub set_binds : c.code ≡ 8 → m ≡ next xs c → ReadsOn xs (paren d ∷ []) m k → Reads xs (bound_name (d + 1) p w ∷ []) k ns ts r ns' ts' → Reads xs (field_set d p w ∷ []) c ns ts r ns' ts'
  unfolding consume
  set_binds e n a b = take_then {qs = paren d ∷ bound_name (d + 1) p w ∷ []} (rw e refl) n (λ rs ks. rw (e, consume)) (then (a ns ts) b)

module _ {xs : List ℕ} {c k r : Cursor} {ns ts ns' ts' : List ℕ} (d p w : ℕ) where
  pub set_plain : (c.code ≡ 8 → ⊥) → ReadsTerms xs (value_set d ∷ []) c ts k ts' → ReadsNodes xs (field_end p w 0 0 c.terms ∷ []) k ns r ns' → Reads xs (field_set d p w ∷ []) c ns ts r ns' ts'
  unfolding consume
  set_plain h a b = skip_then {qs = value_set d ∷ field_end p w 0 0 c.terms ∷ []} {m = c} refl (λ rs ks. rw (ne_eqb c.code 8 h, consume)) (then (a ns) (b ts'))

pub field_reads : {xs : List ℕ} {c w m k r : Cursor} {ns ts ns' ts' : List ℕ} (d p : ℕ) → ReadsOn xs (paren d ∷ []) c w → ReadsOn xs (want 2 ∷ []) w m → ReadsOn xs (want 44 ∷ []) m k → Reads xs (field_set (d + 1) p w.start ∷ []) k ns ts r ns' ts' → Reads xs (paren d ∷ width (d + 1) p ∷ []) c ns ts r ns' ts'
unfolding consume
field_reads {xs} {c} {w} {ns = ns} {ts = ts} d p o a b g =
    then (o ns ts) (skip_then {qs = want 2 ∷ want 44 ∷ field_set (d + 1) p w.start ∷ []} {m = w} refl (λ rs ks. refl) (then (a ns ts) (then (b ns ts) g)))

-- ---- items

module _ {xs : List ℕ} {c m r : Cursor} {ns ns' : List ℕ} (d : ℕ) where
  pub atom_literal : c.code ≡ 3 → m ≡ node_more c → ns' ≡ put_node ns c.nodes 6 (counted max_constructs c.nodes - c.nodes) c.start 0 0 0 0 0 → r ≡ next xs m → ReadsNodes xs (atom d ∷ []) c ns r ns'
  unfolding consume atom_begins
  atom_literal e z w n = take_node c.nodes 6 c.start 0 0 0 0 0 (rw e refl) z w n (λ ts rs ks. rw e)

  pub atom_eod : c.code ≡ 7 → m ≡ node_more c → ns' ≡ put_node ns c.nodes 9 (counted max_constructs c.nodes - c.nodes) c.start 0 0 0 0 0 → r ≡ next xs m → ReadsNodes xs (atom d ∷ []) c ns r ns'
  unfolding consume atom_begins
  atom_eod e z w n = take_node c.nodes 9 c.start 0 0 0 0 0 (rw e refl) z w n (λ ts rs ks. rw e)

  pub atom_use : (c.code ≡ 6 → ⊥) → (c.code ≡ 7 → ⊥) → name_like c.code ≡ true → m ≡ node_more c → ns' ≡ put_node ns c.nodes 5 (counted max_constructs c.nodes - c.nodes) c.start 0 0 0 0 0 → r ≡ next xs m → ReadsNodes xs (atom d ∷ []) c ns r ns'
  unfolding consume atom_begins
  atom_use h i e z w n =
      take_node c.nodes 5 c.start 0 0 0 0 0 (name_live c.code e) z w n
      (λ ts rs ks. rw (name_not c.code 3 refl e, name_not c.code 9 refl e, ne_eqb c.code 6 h, ne_eqb c.code 7 i, e))

  pub atom_character : c.code ≡ 9 → m ≡ next xs c → ReadsNodes xs (character_tail c.start ∷ []) m ns r ns' → ReadsNodes xs (atom d ∷ []) c ns r ns'
  unfolding consume atom_begins
  atom_character e n a ts = take_then {qs = character_tail c.start ∷ []} (rw e refl) n (λ rs ks. rw e) (a ts)

pub atom_field : {xs : List ℕ} {c m r : Cursor} {ns ts ns' ts' : List ℕ} (d : ℕ) → c.code ≡ 6 → m ≡ next xs c → Reads xs (paren d ∷ width (d + 1) c.start ∷ []) m ns ts r ns' ts' → Reads xs (atom d ∷ []) c ns ts r ns' ts'
unfolding consume atom_begins
atom_field {c = c} d e n a = take_then {qs = paren d ∷ width (d + 1) c.start ∷ []} (rw e refl) n (λ rs ks. rw e) a

pub atom_fault : {xs : List ℕ} {c r : Cursor} {ns ts : List ℕ} (d : ℕ) → (c.code ≡ 3 → ⊥) → (c.code ≡ 9 → ⊥) → (c.code ≡ 6 → ⊥) → (c.code ≡ 7 → ⊥) → name_like c.code ≡ false → (c.code ≡ 40 → ⊥) → (c.code ≡ 91 → ⊥) → r ≡ fail c → Reads xs (atom d ∷ []) c ns ts r ns ts
unfolding consume atom_begins
atom_fault {c = c} d a b e f g h i n =
    fault_only n (λ rs ks. rw (ne_eqb c.code 3 a, ne_eqb c.code 9 b, ne_eqb c.code 6 e, ne_eqb c.code 7 f, g, ne_eqb c.code 40 h, ne_eqb c.code 91 i))

-- ---- repetition marks

mark_live : (n : ℕ) → (mark_of n ≡ 0 → ⊥) → live n ≡ true
mark_live n h = test_live (λ (k : ℕ). not (eqb (mark_of k) 0)) refl refl n (ap not (ne_eqb (mark_of n) 0 h))

module _ {xs : List ℕ} {c m k q r : Cursor} {ns ts ns' ts' : List ℕ} (p i : ℕ) where
  pub mark_counts : c.code ≡ 123 → m ≡ next xs c → ReadsTerms xs (counts ∷ []) m ts k ts' → k.code ≡ 125 → q ≡ node_more k → ns' ≡ put_node ns i 3 (counted max_constructs k.nodes - i) p 4 c.start c.terms k.terms 0 → r ≡ next xs q → Reads xs (marked p i ∷ []) c ns ts r ns' ts'
  unfolding consume
  mark_counts e n a f z w o =
      take_then {qs = counts ∷ counts_end p i c.start c.terms ∷ []} (rw e refl) n (λ rs ks. rw (e, consume))
      (then (a ns) (take_node i 3 p 4 c.start c.terms k.terms 0 (rw f refl) z w o (λ l rs ks. rw (f, consume)) ts'))

pub mark_counts_fault : {xs : List ℕ} {c m k r : Cursor} {ns ts ts' : List ℕ} (p i : ℕ) → c.code ≡ 123 → m ≡ next xs c → ReadsTerms xs (counts ∷ []) m ts k ts' → (k.code ≡ 125 → ⊥) → r ≡ fail k → Reads xs (marked p i ∷ []) c ns ts r ns ts'
unfolding consume
mark_counts_fault {c = c} {k = k} {ns = ns} p i e n a h z =
    take_then {qs = counts ∷ counts_end p i c.start c.terms ∷ []} (rw e refl) n (λ rs ks. rw (e, consume))
    (then (a ns) (fault_only z (λ rs ks. rw (ne_eqb k.code 125 h, consume))))

pub mark_none : {xs : List ℕ} {c : Cursor} {ns ts : List ℕ} (p i how : ℕ) → (c.code ≡ 123 → ⊥) → how ≡ mark_of c.code → how ≡ 0 → Reads xs (marked p i ∷ []) c ns ts c ns ts
unfolding consume
mark_none {c = c} p i how h z e =
    skip_then {qs = []} {m = c} refl (λ rs ks. let w : eqb (mark_of c.code) 0 ≡ true = eq-eqb (mark_of c.code) 0 (sym z ∙ e) in rw (ne_eqb c.code 123 h, consume) (rw w refl)) nothing

module _ {xs : List ℕ} {c m r : Cursor} {ns ts ns' : List ℕ} (p i how : ℕ) where
  pub mark_sign : (c.code ≡ 123 → ⊥) → how ≡ mark_of c.code → (how ≡ 0 → ⊥) → m ≡ node_more c → ns' ≡ put_node ns i 3 (counted max_constructs c.nodes - i) p how c.start 0 0 0 → r ≡ next xs m → Reads xs (marked p i ∷ []) c ns ts r ns' ts
  unfolding consume
  mark_sign h z e q w n =
      take_node i 3 p how c.start 0 0 0 (mark_live c.code (λ x. e (z ∙ x))) q w n
      (λ l rs ks. let v : eqb (mark_of c.code) 0 ≡ false = ne_eqb (mark_of c.code) 0 (λ x. e (z ∙ x)) in rw (ne_eqb c.code 123 h, consume) (rw v (rw z refl)))
      ts
