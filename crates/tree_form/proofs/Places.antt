-- Refused at the first fault: the tokens before the place begin a tree's spelling, and with the token there none begins.
-- Assumes nothing.
use Prim.Native.Nat.{ℕ, zero, suc, ◌-◌, ◌<◌}
use mathlib.Core.Path.{◌≡◌, refl, sym, ap, subst, ◌∙◌}
use mathlib.Core.Logic.{⊎_elim}
use mathlib.Core.Bool.{Bool, false}
use mathlib.Core.List.{List, [], ◌∷◌, ◌++◌}
use native.Mathlib.Omega.{arith}
use lib.ListN.{length}
use Rattle.text_tokens.specs.Tokens.{token_of}
use Rattle.text_tokens.specs.declared.Kind.{Kind}
use Rattle.text_store.specs.Store.{State}
use Rattle.text_parsing.specs.Symbols.{Symbol}
use Rattle.text_parsing.specs.Form.{Consumed, go, done, fault, consume, Outcome, right, refused, run}
use Rattle.text_parsing.specs.declared.Terminal.{Terminal}
use Rattle.text_parsing.proofs.TerminalLaws.{Stands, ended, moving, stands}
use Rattle.tree.specs.Lexemes.{Lexeme, place_of, lexeme_as, lexeme_of, lexemes_from, lexemes}
use Rattle.tree_form.specs.Spelled.{answer}
use Rattle.tree_form.specs.Form.{Begins, FirstFault}
use Rattle.tree_form.proofs.Classified.{opens, code, seen_with, classified, after, begun, of_kind, terminals_classified}
use Rattle.tree_form.proofs.Rests.{MoreRules, more_rules, Rests, spell_all, spell_more_rules, Ground, Room}
use Rattle.tree_form.proofs.Leading.{Going, Stuck, Leads, goes, ends, faults, shortest, consumed}
use Rattle.tree_form.proofs.Ahead.{ahead}
use Rattle.tree_form.proofs.Right.{start, spelled_right, sound}

-- ---- the end comes last

abbrev Ended : List Lexeme → Type 0
Ended [] = ⊥
Ended (x ∷ ls) = Going x → Ended ls

ended_from : (n : ℕ) (xs : List ℕ) (at : ℕ) → length xs - at < n → Ended (lexemes_from n xs at)
ended_from zero xs at f = absurd (omega arith)
ended_from (suc n) xs at f = subst Ended (sym (begun n xs at)) (by (stands xs at) (λ l. ended_from n xs (token_of xs at).end l))
  where
    by : Stands xs at (token_of xs at) → (length xs - (token_of xs at).end < n → Ended (lexemes_from n xs (token_of xs at).end)) → Ended (lexeme_of xs at ∷ after n xs (lexeme_of xs at))
    by (ended e z) h = λ v. absurd (subst (λ (k : Kind). Going (lexeme_as xs (token_of xs at) k)) e v)
    by (moving l a m i) h = λ v. subst Ended (sym ((of_kind n xs (token_of xs at) (token_of xs at).kind).1 l).1) (h (omega arith))

-- ---- where reading stops

pub record Located (ls : List Lexeme) (st : State) (ks : List Symbol) (p : ℕ) : Type 0 where
  pub before : List Lexeme
  pub there : Lexeme
  pub rest : List Lexeme
  pub are : ls ≡ before ++ there ∷ rest
  pub place : place_of there ≡ p
  -- whatever follows
  pub stuck : (more : List Lexeme) → run (classified (before ++ there ∷ more)) st ks ≡ refused (place_of there)
  pub rests : Rests ks
  pub left : List Lexeme
  pub begins : spell_all ks rests ≡ before ++ left

-- how it goes on after a token
abbrev next : Lexeme → Consumed → List Terminal → Outcome
next x f ss = elim f [ go st' ks' ↦ run ss st' ks' | done st' ↦ right st' | fault ↦ refused (place_of x) ]

data Found (x : Lexeme) (ls : List Lexeme) (ks : List Symbol) (f : Consumed) (p : ℕ) : Type 0 where
  at_once : f ≡ fault → place_of x ≡ p → Found x ls ks f p
  later : (before : List Lexeme) (there : Lexeme) (rest : List Lexeme) → ls ≡ before ++ there ∷ rest → place_of there ≡ p → ((more : List Lexeme) → next x f (classified (before ++ there ∷ more)) ≡ refused (place_of there)) → (r : Rests ks) (left : List Lexeme) → spell_all ks r ≡ x ∷ before ++ left → Found x ls ks f p

-- at the next token, where none is taken
stopped : (y : Lexeme) (ls : List Lexeme) (st : State) (ks : List Symbol) → Stuck ks → run (classified (y ∷ ls)) st ks ≡ refused (place_of y)
unfolding run classified
stopped y ls st ks h = ap (λ (f : Consumed). next y f (classified ls)) (h (seen_with y (code y (opens ls))) st)

module _ (x : Lexeme) (st : State) (ks : List Symbol) (p : ℕ) where
  at_next : {st' : State} {ks' : List Symbol} (ls : List Lexeme) → Ended ls → Stuck ks' → (r : Rests ks) (left : List Lexeme) → spell_all ks r ≡ x ∷ left → run (classified ls) st' ks' ≡ refused p → Found x ls ks (go st' ks') p
  at_next [] n h r left s e = absurd n
  at_next {st'} {ks'} (y ∷ ls) n h r left s e = later [] y ls refl (let z : place_of y ≡ p = cc (stopped y ls st' ks' h) in z) (λ more. stopped y more st' ks' h) r left s

  find : (ls : List Lexeme) {f : Consumed} → Leads x st ks f → Room ks → (Going x → Ended ls) → ((st' : State) (ks' : List Symbol) → Ground ks' → Room ks' → Ended ls → run (classified ls) st' ks' ≡ refused p → Located ls st' ks' p) → next x f (classified ls) ≡ refused p → Found x ls ks f p
  find ls (goes {st'} {ks'} back s t g' m v) room n h e =
      ⊎_elim
      (λ room'.
      let l = h st' ks' g' room' (n v) e
      in later l.before l.there l.rest l.are l.place l.stuck (back l.rests) l.left (s l.rests ∙ ap (λ (w : List Lexeme). x ∷ w) l.begins))
      (λ o. at_next ls (n v) o.1 o.0.rests o.0.after o.0.spells e) (m room)
  find ls (ends r q s t) room n h e = let z : ◌≡◌ {A = ℕ} 0 1 = cc in absurd (omega arith)
  find ls faults room n h e = at_once refl (let z : place_of x ≡ p = cc in z)

opens_same : (before : List Lexeme) (there : Lexeme) (rest more : List Lexeme) → opens (before ++ there ∷ rest) ≡ opens (before ++ there ∷ more)
opens_same [] there rest more = refl
opens_same (x ∷ before) there rest more = refl

settled : (x : Lexeme) (ls : List Lexeme) (st : State) (ks : List Symbol) (p : ℕ) → Ground ks → Room ks → Found x ls ks (consume (seen_with x (code x (opens ls))) st ks) p → Located (x ∷ ls) st ks p
unfolding run classified
settled x ls st ks p g m (at_once q z) =
    record {
      before = [];
      there = x;
      rest = ls;
      are = refl;
      place = z;
      stuck = λ more. ap (λ (f : Consumed). next x f (classified more)) (ahead x (opens ls) (opens more) st ks g q);
      rests = shortest ks g m;
      left = spell_all ks (shortest ks g m);
      begins = refl;
    }
settled x ls st ks p g m (later b y c a z k r left q) =
    record {
      before = x ∷ b;
      there = y;
      rest = c;
      are = ap (λ (w : List Lexeme). x ∷ w) a;
      place = z;
      stuck = λ more. subst (λ (o : Bool). next x (consume (seen_with x (code x o)) st ks) (classified (b ++ y ∷ more)) ≡ refused (place_of y)) (ap opens a ∙ opens_same b y c more) (k more);
      rests = r;
      left = left;
      begins = q;
    }

located : (ls : List Lexeme) → Ended ls → (st : State) (ks : List Symbol) (p : ℕ) → Ground ks → Room ks → run (classified ls) st ks ≡ refused p → Located ls st ks p
unfolding run classified
located [] n st ks p g m e = absurd n
located (x ∷ ls) n st ks p g m e =
    settled x ls st ks p g m (find x st ks p ls (consumed x (opens ls) (code x (opens ls)) refl ks st g) m n (λ st' ks' g' m' n' e'. located ls n' st' ks' p g' m' e') e)

-- ---- the first fault

begun_by : (before left : List Lexeme) (r : MoreRules false) → spell_more_rules r ≡ before ++ left → Begins before
unfolding spell_more_rules
begun_by before left (more_rules t p) e = record { tree = t; end = p; rest = left; begins = e }

regrouped : (before : List Lexeme) (there : Lexeme) (rest : List Lexeme) → (before ++ there ∷ []) ++ rest ≡ before ++ there ∷ rest
regrouped [] there rest = refl
regrouped (x ∷ before) there rest = ap (λ (w : List Lexeme). x ∷ w) (regrouped before there rest)

no_other : {A : Type 0} {p : ℕ} {f : State} {o : Outcome} → o ≡ refused p → o ≡ right f → A
no_other a b = let z : ◌≡◌ {A = ℕ} 0 1 = cc in absurd (omega arith)

first_fault : {ls : List Lexeme} {st : State} {p : ℕ} → Located ls st start p → FirstFault ls p
first_fault {st = st} l =
    record {
      before = l.before;
      there = l.there;
      rest = l.rest;
      are = l.are;
      place = l.place;
      begun = begun_by l.before l.left l.rests.0 l.begins;
      unfit =
          λ b.
          no_other (l.stuck b.rest)
          (ap (λ (ls : List Lexeme). run (classified ls) st start) (sym (b.begins ∙ regrouped l.before l.there b.rest)) ∙ spelled_right b.tree b.end st);
    }

-- refused: at the first fault
pub refused_first : (xs : List ℕ) (st : State) (p : ℕ) → answer xs st ≡ refused p → FirstFault (lexemes xs) p
refused_first xs st p e =
    first_fault (located (lexemes xs) (ended_from (suc (length xs)) xs 0 (omega arith)) st start p tt tt (ap (λ s. run s st start) (sym (terminals_classified xs)) ∙ e))

-- ---- there is one first fault

-- of two ways to cut a list, one comes first
data Cuts (b : List Lexeme) (x : Lexeme) (c : List Lexeme) (y : Lexeme) : Type 0 where
  same : x ≡ y → Cuts b x c y
  sooner : (more : List Lexeme) → c ≡ b ++ x ∷ more → Cuts b x c y
  after_it : (more : List Lexeme) → b ≡ c ++ y ∷ more → Cuts b x c y

more_cuts : (a a' : Lexeme) → a ≡ a' → {b c : List Lexeme} {x y : Lexeme} → Cuts b x c y → Cuts (a ∷ b) x (a' ∷ c) y
more_cuts a a' e (same q) = same q
more_cuts a a' e {b} {c} {x} {y} (sooner more q) = sooner more (let z : a' ∷ c ≡ a ∷ (b ++ x ∷ more) = cc in z)
more_cuts a a' e {b} {c} {x} {y} (after_it more q) = after_it more (let z : a ∷ b ≡ a' ∷ (c ++ y ∷ more) = cc in z)

cuts : (b : List Lexeme) (x : Lexeme) (r : List Lexeme) (c : List Lexeme) (y : Lexeme) (s : List Lexeme) → b ++ x ∷ r ≡ c ++ y ∷ s → Cuts b x c y
cuts [] x r [] y s e = same (let z : x ≡ y = cc in z)
cuts [] x r (v ∷ c) y s e = sooner c (let z : v ≡ x = cc in ap (λ (u : Lexeme). u ∷ c) z)
cuts (u ∷ b) x r [] y s e = after_it b (let z : u ≡ y = cc in ap (λ (v : Lexeme). v ∷ b) z)
cuts (u ∷ b) x r (v ∷ c) y s e = more_cuts u v (let z : u ≡ v = cc in z) (cuts b x r c y s (let z : b ++ x ∷ r ≡ c ++ y ∷ s = cc in z))

-- what begins a spelling, so does a part of it
shorter : (b : List Lexeme) (x : Lexeme) (more c : List Lexeme) → c ≡ b ++ x ∷ more → Begins c → Begins (b ++ x ∷ [])
shorter b x more c e h = record { tree = h.tree; end = h.end; rest = more ++ h.rest; begins = h.begins ∙ ap (λ (w : List Lexeme). w ++ h.rest) e ∙ joined b }
  where
    joined : (b : List Lexeme) → (b ++ x ∷ more) ++ h.rest ≡ (b ++ x ∷ []) ++ (more ++ h.rest)
    joined [] = refl
    joined (u ∷ b) = ap (λ (w : List Lexeme). u ∷ w) (joined b)

one_fault : {ls : List Lexeme} {p q : ℕ} → FirstFault ls p → FirstFault ls q → p ≡ q
one_fault {ls} {p} {q} a b = by (cuts a.before a.there a.rest b.before b.there b.rest (sym a.are ∙ b.are))
  where
    by : Cuts a.before a.there b.before b.there → p ≡ q
    by (same e) = sym a.place ∙ ap place_of e ∙ b.place
    by (sooner more e) = absurd (a.unfit (shorter a.before a.there more b.before e b.begun))
    by (after_it more e) = absurd (b.unfit (shorter b.before b.there more a.before e a.begun))

-- and at it, refused
pub first_refused : (xs : List ℕ) (st : State) (p : ℕ) → FirstFault (lexemes xs) p → answer xs st ≡ refused p
first_refused xs st p f = by (answer xs st) refl
  where
    by : (o : Outcome) → answer xs st ≡ o → answer xs st ≡ refused p
    by (right h) e =
        let s = sound xs st h e
        in absurd (f.unfit (record { tree = s.tree; end = s.end; rest = f.rest; begins = sym s.spells ∙ f.are ∙ sym (regrouped f.before f.there f.rest) }))
    by (refused q) e = e ∙ ap refused (one_fault (refused_first xs st q e) f)
