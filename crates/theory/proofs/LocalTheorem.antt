-- Local: threading a value for each level of opening through a derivation gives the same trees, and the same is reported, as with variables
-- local to each opening of a rule.
-- Assumes nothing.
use Prim.Native.Nat.{ℕ}
use mathlib.Core.Path.{◌≡◌, refl, sym, ◌∙◌, ap, ap₂, subst, subst₂}
use mathlib.Core.Logic.{inl, inr, ◌↔◌}
use mathlib.Core.Bool.{Bool, true, false}
use mathlib.Core.List.Memᴰ
use mathlib.Core.List.{List, [], ◌++◌}
use mathlib.Core.Option.{Option, some}
use Rattle.basis.specs.Bits.{Bits}
use Rattle.basis.specs.Counts.{Counts, Allows}
use Rattle.theory.specs.Grammar.{Node, alternative, concatenation, repetition, switch, use_of, field, eod, Grammar, ◌∈◌}
use Rattle.theory.specs.Derivation.{Tree, Shape, construct, members, passes, Derives, Derivation}
use Rattle.theory.specs.Hypotheses.{Static}
use Rattle.theory.specs.Scope.{Store, Scope, Agree, Chain, UseScoped, Scoped, local_use, MayBind, local_node, localised, Lexical}
use Rattle.theory.proofs.FirstTheorem.{Known}

-- agreement at more variables is agreement at fewer
module _ {Context Values Cell A R : Type 0} (store : Store Context Values Cell A R) where
  at_same : {c : Context} {xs zs : List ℕ} {v v' : Values} → xs ≡ zs → Agree store c xs v v' → Agree store c zs v v'
  at_same e a x m = a x (subst (λ (l : List ℕ). x ∈ l) (sym e) m)

  at_front : {c : Context} {xs : List ℕ} (us : List ℕ) {v v' : Values} → Agree store c (xs ++ us) v v' → Agree store c xs v v'
  at_front us a x m = a x (Memᴰ.append_left us m)

  at_none_more : {c : Context} {xs ys : List ℕ} {v v' : Values} → ys ≡ [] → Agree store c xs v v' → Agree store c (xs ++ ys) v v'
  at_none_more {xs = xs} e a x m = elim (Memᴰ.append_cases xs m) [ inl y ↦ a x y | inr y ↦ absurd (Memᴰ.not-nil (subst (λ (l : List ℕ). x ∈ l) e y)) ]

  at_level : {c c' : Context} {xs : List ℕ} {v v' : Values} → ((x : ℕ) → store.cell c x ≡ store.cell c' x) → Agree store c xs v v' → Agree store c' xs v v'
  at_level {v = v} {v'} e a x m = subst (λ (k : Cell). store.read v k ≡ store.read v' k) (e x) (a x m)

  back : {c : Context} {xs : List ℕ} {v v' : Values} → Agree store c xs v v' → Agree store c xs v' v
  back a x m = sym (a x m)

module _ {Context Values Cell A R : Type 0} (store : Store Context Values Cell A R) (scope : Scope) where
  -- A derivation of a threaded grammar changes no cell that nothing in it binds.
  module _ (g : Grammar Context Values) (h : Static g) (scoped : (i : ℕ) → Scoped store scope i (g.node i))
      (stays : (i b : ℕ) (enters : Context → Option Context) (opens : Context → Values → Values) (closes : Values → Values → Values) → g.node i ≡ use_of enters opens closes b → (v v' : Values) → closes v v' ≡ v') where
    abbrev Free : Context → Cell → Shape Context Values → Type 0
    Free c k (construct i n) = MayBind store scope g c i k → ⊥
    Free c k (members is) = (m : ℕ) → m ∈ is → MayBind store scope g c m k → ⊥
    Free c k (passes b n) = MayBind store scope g c b k → ⊥

    law : {i : ℕ} {n : Node Context Values} → g.node i ≡ n → Scoped store scope i n
    law {i} q = subst (Scoped store scope i) q (scoped i)

    opens_unchanged : {i : ℕ} (b : ℕ) (enters : Context → Option Context) (opens : Context → Values → Values) (closes : Values → Values → Values) (o : Bool) → g.node i ≡ use_of enters opens closes b
        → UseScoped store scope o i enters opens b → (c c' : Context) (v : Values) (k : Cell) → enters c ≡ some c' → (MayBind store scope g c i k → ⊥) → store.read (opens c v) k ≡ store.read v k
    opens_unchanged b enters opens closes true q l c c' v k e f = l.1 c c' v k e (λ x y z. f (MayBind.entering q e y z))
    opens_unchanged b enters opens closes false q l c c' v k e f = ap (λ (u : Values). store.read u k) (l.2 c v)

    pub unchanged : {what : Shape Context Values} {t : Tree} {c : Context} {v v' : Values} {s r : Bits} → Derives g what t c v s v' r → Known g what → (k : Cell) → Free c k what → store.read v' k ≡ store.read v k
    unchanged (Derives.of_alternative m d) q k f = unchanged d refl k (λ y. f (MayBind.in_branch q m y))
    unchanged (Derives.of_concatenation d) q k f = unchanged d tt k (λ m z y. f (MayBind.in_member q z y))
    unchanged (Derives.of_repetition n a d) q k f = unchanged d tt k (λ y. f (MayBind.in_body q y))
    unchanged (Derives.of_switch {c = c} {v = v} e d) q k f = unchanged d refl k (λ y. f (MayBind.in_case q (h.chosen_listed q c v e) y))
    unchanged (Derives.of_no_case e o) q k f = refl
    unchanged (Derives.of_use {i} {b} {enters} {opens} {closes} {c = c} {c' = c'} {v = v} {v' = v'} e d z) q k f =
        ap (λ (u : Values). store.read u k) (z ∙ stays i b enters opens closes q v v')
        ∙ (unchanged d refl k (λ y. f (MayBind.in_rule q e y)) ∙ opens_unchanged b enters opens closes (scope.opens_rule i) q (law q) c c' v k e f)
    unchanged (Derives.of_field {c = c} {v = v} bits l e a z) q k f = ap (λ (u : Values). store.read u k) z ∙ (law q).2 c v bits k (λ x y w. f (MayBind.itself y w))
    unchanged Derives.of_eod q k f = refl
    unchanged Derives.no_members q k f = refl
    unchanged (Derives.more_members {m = m} d ds) q k f = unchanged ds tt k (λ m' z y. f m' (Memᴰ.tail z) y) ∙ unchanged d refl k (λ y. f m (Memᴰ.head refl) y)
    unchanged Derives.no_passes q k f = refl
    unchanged (Derives.more_passes d ds) q k f = unchanged ds tt k f ∙ unchanged d refl k f

  abbrev NotUse : Node Context Values → Type 0
  NotUse (alternative is) = Unit {0}
  NotUse (concatenation is) = Unit {0}
  NotUse (repetition counts static fixed b) = Unit {0}
  NotUse (switch chosen optional is) = Unit {0}
  NotUse (use_of enters opens closes b) = ⊥
  NotUse (field w admits static binds) = Unit {0}
  NotUse eod = Unit {0}

  -- the same is reported
  abbrev Reports : Values → Values → Type 0
  Reports v v' = store.reported v ≡ store.reported v'

  -- a use of a rule leaves what is seen there as it was, and reports what its body does
  abbrev Keeps : Grammar Context Values → ℕ → (Context → Option Context) → (Context → Values → Values) → (Values → Values → Values) → ℕ → Type 0
  Keeps g i enters opens closes b =
      (t : Tree) (c c' : Context) (v w : Values) (s r : Bits) → enters c ≡ some c' → Derives g (construct b (g.node b)) t c' (opens c v) s w r → Agree store c (scope.sees i) (closes v w) v × Reports (closes v w) w

  -- The nodes of one construct in two grammars that differ in how rules are opened and closed.
  data Alike (g l : Grammar Context Values) (i : ℕ) : Node Context Values → Node Context Values → Type 0 where
    same : {n : Node Context Values} → NotUse n → Scoped store scope i n → Alike g l i n n
    uses : {b : ℕ} {enters : Context → Option Context} {opens opens' : Context → Values → Values} {closes closes' : Values → Values → Values} → scope.binds i ≡ []
        → ((c c' : Context) (v v' : Values) → enters c ≡ some c' → Agree store c (scope.sees i) v v' → Reports v v' → Agree store c' (scope.sees b) (opens c v) (opens' c v') × Reports (opens c v) (opens' c v'))
        → Keeps g i enters opens closes b → Keeps l i enters opens' closes' b
        → Alike g l i (use_of enters opens closes b) (use_of enters opens' closes' b)
    through : {b : ℕ} {enters : Context → Option Context} {opens : Context → Values → Values} {closes : Values → Values → Values} → scope.binds i ≡ scope.binds b → scope.sees b ≡ scope.sees i
        → ((c : Context) (v : Values) → opens c v ≡ v) → ((v v' : Values) → closes v v' ≡ v') → ((c c' : Context) (x : ℕ) → enters c ≡ some c' → store.cell c' x ≡ store.cell c x)
        → Alike g l i (use_of enters opens closes b) (use_of enters opens closes b)

  alike_back : {g l : Grammar Context Values} {i : ℕ} {n n' : Node Context Values} → Alike g l i n n' → Alike l g i n' n
  alike_back (Alike.same u s) = Alike.same u s
  alike_back (Alike.through e e' o k y) = Alike.through e e' o k y
  alike_back (Alike.uses e o k k') = Alike.uses e (λ c c' v v' z a p. let x = o c c' v' v z (back store a) (sym p) in (back store x.0, sym x.1)) k' k

  module _ (g l : Grammar Context Values) (alike : (i : ℕ) → Alike g l i (g.node i) (l.node i)) where
    -- what is derived in the one grammar and in the other, from values that agree where they are seen
    data Ready (c : Context) (v v' : Values) : Shape Context Values → Shape Context Values → Type 0 where
      one : {i : ℕ} {n n' : Node Context Values} → Alike g l i n n' → Agree store c (scope.sees i) v v' → Ready c v v' (construct i n) (construct i n')
      several : {is : List ℕ} (xs : List ℕ) → Chain scope xs is → Agree store c xs v v' → Ready c v v' (members is) (members is)
      repeated : {b k : ℕ} (xs : List ℕ) → scope.sees b ≡ xs → Agree store c xs v v' → Ready c v v' (passes b k) (passes b k)

    abbrev seen_after : {c : Context} {v v' : Values} {what what' : Shape Context Values} → Ready c v v' what what' → List ℕ
    seen_after (Ready.one {i} a e) = scope.sees i ++ scope.binds i
    seen_after (Ready.several xs ch e) = xs
    seen_after (Ready.repeated xs q e) = xs

    transfer : {what what' : Shape Context Values} {t : Tree} {c : Context} {v w v' : Values} {s r : Bits} → Derives g what t c v s w r → (ready : Ready c v v' what what') → Reports v v'
        → (w' : Values) × Derives l what' t c v' s w' r × Agree store c (seen_after ready) w w' × Reports w w'
    transfer (Derives.of_alternative {b = b} m d) (Ready.one (Alike.same u s) a) p =
        let e = s.1 b m in
        let x = transfer d (Ready.one (alike b) (at_same store (sym e) a)) p in
        (x.0, Derives.of_alternative m x.1, at_none_more store s.0 (at_same store e (at_front store (scope.binds b) x.2)), x.3)
    transfer (Derives.of_concatenation {i} d) (Ready.one (Alike.same u s) a) p =
        let x = transfer d (Ready.several (scope.sees i) s.1 a) p in (x.0, Derives.of_concatenation x.1, at_none_more store s.0 x.2, x.3)
    transfer (Derives.of_repetition {i} {c = c} {v = v} k al d) (Ready.one (Alike.same u s) a) p =
        let x = transfer d (Ready.repeated (scope.sees i) s.1 a) p in
        (x.0, Derives.of_repetition k (subst (λ (n : Counts). Allows n k) (s.2 c v _ a) al) x.1, at_none_more store s.0 x.2, x.3)
    transfer (Derives.of_switch {b = b} {c = c} {v = v} e d) (Ready.one (Alike.same u s) a) p =
        let e' = s.1 c v b e in
        let x = transfer d (Ready.one (alike b) (at_same store (sym e') a)) p in
        (x.0, Derives.of_switch (sym (s.2 c v _ a) ∙ e) x.1, at_none_more store s.0 (at_same store e' (at_front store (scope.binds b) x.2)), x.3)
    transfer {v' = v'} (Derives.of_no_case {c = c} {v = v} e o) (Ready.one (Alike.same u s) a) p =
        (v', Derives.of_no_case (sym (s.2 c v v' a) ∙ e) o, at_none_more store s.0 a, p)
    transfer (Derives.of_use e d z) (Ready.one (Alike.same u s) a) p = absurd u
    transfer {v' = v'} (Derives.of_use {i} {b} {t = t} {c} {c'} {v} {v' = w} {s = s} {r = r} e d z) (Ready.one (Alike.uses {closes' = closes'} n o k k') a) p =
        let f = o c c' v v' e a p in
        let x = transfer d (Ready.one (alike b) f.0) f.1 in
        let y = k t c c' v w s r e d in
        let y' = k' t c c' v' x.0 s r e x.1 in (
          closes' v' x.0,
          Derives.of_use e x.1 refl,
          at_none_more store n (λ q m. ap (λ (u : Values). store.read u (store.cell c q)) z ∙ (y.0 q m ∙ (a q m ∙ sym (y'.0 q m)))),
          ap store.reported z ∙ (y.1 ∙ (x.3 ∙ sym y'.1)),
        )
    transfer {v' = v'} (Derives.of_use {b = b} {opens = opens} {closes} {c = c} {c' = c'} {v = v} {v' = w} e d z) (Ready.one (Alike.through n n' o k y) a) p =
        let x = transfer d
        (Ready.one (alike b) (at_level store (λ q. sym (y c c' q e)) (subst₂ (Agree store c (scope.sees b)) (sym (o c v)) (sym (o c v')) (at_same store (sym n') a))))
        (ap store.reported (o c v) ∙ (p ∙ ap store.reported (sym (o c v')))) in (
          x.0,
          Derives.of_use e x.1 (sym (k v' x.0)),
          at_same store (ap₂ ◌++◌ n' (sym n)) (λ q m. ap (λ (u : Values). store.read u (store.cell c q)) (z ∙ k v w) ∙ at_level store (λ q. y c c' q e) x.2 q m),
          ap store.reported (z ∙ k v w) ∙ x.3,
        )
    transfer {v' = v'} (Derives.of_field {binds = binds} {c = c} {v = v} bits ln e ad z) (Ready.one (Alike.same u s) a) p = (
      binds c v' bits,
      Derives.of_field bits ln e (sym (s.0 c v v' bits a) ∙ ad) refl,
      λ y m. ap (λ (u : Values). store.read u (store.cell c y)) z ∙ s.1 c v v' bits a y m,
      ap store.reported z ∙ s.3 c v v' bits p,
    )
    transfer {v' = v'} Derives.of_eod (Ready.one (Alike.same u s) a) p = (v', Derives.of_eod, at_none_more store s a, p)
    transfer {v' = v'} Derives.no_members (Ready.several xs ch a) p = (v', Derives.no_members, a, p)
    transfer (Derives.more_members {m = m} d ds) (Ready.several xs ch a) p =
        let x = transfer d (Ready.one (alike m) (at_same store (sym ch.0) a)) p in
        let y = transfer ds (Ready.several (xs ++ scope.binds m) ch.1 (at_same store (ap (λ (l : List ℕ). l ++ scope.binds m) ch.0) x.2)) x.3 in
        (y.0, Derives.more_members x.1 y.1, at_front store (scope.binds m) y.2, y.3)
    transfer {v' = v'} Derives.no_passes (Ready.repeated xs e a) p = (v', Derives.no_passes, a, p)
    transfer (Derives.more_passes {b = b} d ds) (Ready.repeated xs e a) p =
        let x = transfer d (Ready.one (alike b) (at_same store (sym e) a)) p in
        let y = transfer ds (Ready.repeated xs e (at_same store e (at_front store (scope.binds b) x.2))) x.3 in
        (y.0, Derives.more_passes x.1 y.1, y.2, y.3)

  module _ (fresh : ℕ → Context → Values → Values) (g : Grammar Context Values) (h : Static g) (x : Lexical store scope fresh g) where
    abbrev inner : Grammar Context Values
    inner = localised store scope fresh g

    -- a rule used here binds nothing that is seen here
    use_keeps : {i b : ℕ} {enters : Context → Option Context} {opens : Context → Values → Values} {closes : Values → Values → Values} → g.node i ≡ use_of enters opens closes b → Keeps g i enters opens closes b
    use_keeps {i} {b} {enters} {opens} {closes} q t c c' v w s r e d = (
      λ y m.
          let free : MayBind store scope g c' b (store.cell c y) → ⊥ = λ z. x.not_bound_again c i y m (MayBind.in_rule q e z) in
          ap (λ (u : Values). store.read u (store.cell c y)) (x.values_stay q v w)
          ∙ (unchanged g h x.scoped (λ i b enters opens closes e. x.values_stay e) d refl (store.cell c y) free
          ∙ opens_unchanged g h x.scoped (λ i b enters opens closes e. x.values_stay e) b enters opens closes (scope.opens_rule i) q (subst (Scoped store scope i) q (x.scoped i)) c c' v (store.cell c y) e (x.not_bound_again c i y m)),
      ap store.reported (x.values_stay q v w),
    )

    use_alike : (i : ℕ) (enters : Context → Option Context) (opens : Context → Values → Values) (closes : Values → Values → Values) (b : ℕ) → g.node i ≡ use_of enters opens closes b
        → (o : Bool) → scope.opens_rule i ≡ o → UseScoped store scope o i enters opens b → Alike g inner i (use_of enters opens closes b) (local_use store scope fresh o i enters opens closes b)
    use_alike i enters opens closes b q true e l =
        Alike.uses l.0 (λ c c' v v' z a p. (x.entered q e c c' v v' z a, x.entered_reported q e c v v' a p)) (use_keeps q)
        (λ t c c' v w s r z d. (λ y m. store.cells_back v w (store.cell c y), store.report_stays v w))
    use_alike i enters opens closes b q false e l = Alike.through l.0 l.1 l.2 (x.values_stay q) l.3

    local_alike : (i : ℕ) (n : Node Context Values) → g.node i ≡ n → Alike g inner i n (local_node store scope fresh i n)
    unfolding local_node
    local_alike i (alternative is) q = Alike.same tt (subst (Scoped store scope i) q (x.scoped i))
    local_alike i (concatenation is) q = Alike.same tt (subst (Scoped store scope i) q (x.scoped i))
    local_alike i (repetition counts static fixed b) q = Alike.same tt (subst (Scoped store scope i) q (x.scoped i))
    local_alike i (switch chosen optional is) q = Alike.same tt (subst (Scoped store scope i) q (x.scoped i))
    local_alike i (use_of enters opens closes b) q = use_alike i enters opens closes b q (scope.opens_rule i) refl (subst (Scoped store scope i) q (x.scoped i))
    local_alike i (field w admits static binds) q = Alike.same tt (subst (Scoped store scope i) q (x.scoped i))
    local_alike i eod q = Alike.same tt (subst (Scoped store scope i) q (x.scoped i))

    alike : (i : ℕ) → Alike g inner i (g.node i) (inner.node i)
    alike i = local_alike i (g.node i) refl

    pub same_trees : (s : Bits) (t : Tree) (r : R) → ((v : Values) × Derivation g s t v × (store.reported v ≡ r)) ↔ ((v : Values) × Derivation inner s t v × (store.reported v ≡ r))
    same_trees s t r = (
      λ d. let y = transfer g inner alike d.1 (Ready.one (alike g.start) (λ z m. refl)) refl in (y.0, y.1, sym y.3 ∙ d.2),
      λ d. let y = transfer inner g (λ i. alike_back (alike i)) d.1 (Ready.one (alike_back (alike g.start)) (λ z m. refl)) refl in (y.0, y.1, sym y.3 ∙ d.2),
    )

    -- a repetition's counts, which name only what is seen there, are not changed by its body
    pub keeps_counts : (i b : ℕ) (counts : Context → Values → Counts) (static : Counts) (fixed : Bool) (t : Tree) (c : Context) (v v' : Values) (s r : Bits)
        → g.node i ≡ repetition counts static fixed b → Derives g (construct b (g.node b)) t c v s v' r → counts c v' ≡ counts c v
    keeps_counts i b counts static fixed t c v v' s r q d =
        (subst (Scoped store scope i) q (x.scoped i)).2 c v' v
        (λ y m. unchanged g h x.scoped (λ i b enters opens closes e. x.values_stay e) d refl (store.cell c y) (λ z. x.not_bound_again c i y m (MayBind.in_body q z)))
