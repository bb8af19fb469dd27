-- A name stands within the text.
-- Assumes nothing.
use Prim.Native.Nat.{ℕ, ◌≤◌, ◌<◌}
use mathlib.Core.Path.{◌≡◌, sym, ap, ◌∙◌}
use mathlib.Core.Bool.{true, false}
use mathlib.Core.List.{List}
use native.Mathlib.Omega.{arith}
use lib.ListN.{length}
use Rattle.basis.specs.Limits.{max_text_bytes}
use Rattle.text_tokens.specs.Tokens.{token_of}
use Rattle.text_tokens.specs.declared.Kind.{Kind}
use Rattle.text_tokens.specs.declared.Token.{Token}
use Rattle.text_parsing.specs.Terminals.{code_of, seen, terminal_of, name_like, is_name}
use Rattle.text_parsing.specs.declared.Terminal.{Terminal}
use Rattle.text_parsing.proofs.TerminalLaws.{seen_as, Stands, ended, moving, stands}
use Rattle.text_shapes.specs.NodeShapes.{NameAt}
use Rattle.text_names.specs.Counting.{nowhere}

last_seen : (xs : List ℕ) (k : Kind) (start end : ℕ) → k ≡ Kind.End → (seen xs (code_of k) start end).code ≡ 5
unfolding seen
last_seen xs k start end z = rw z

inside : (xs : List ℕ) (at : ℕ) (t : Token) → Stands xs at t → is_name (seen xs (code_of t.kind) t.start t.end) ≡ true → (seen xs (code_of t.kind) t.start t.end).start < length xs
inside xs at t (ended e z) n =
    let f : false ≡ true = sym (ap name_like (last_seen xs t.kind t.start t.end e)) ∙ n
    in let y : ◌≡◌ {A = ℕ} 0 1 = cc in absurd (omega arith)
inside xs at t (moving l a m i) n = omega (arith, (seen_as xs (code_of t.kind) t.start t.end).start_is)

pub name_inside : {xs : List ℕ} {p : ℕ} → NameAt xs p → p < length xs
unfolding terminal_of
name_inside {xs} {p} h =
    let z : h.terminal ≡ terminal_of xs h.seen.at = h.seen.seen
    in let s : Terminal = terminal_of xs h.seen.at
    in let n : is_name s ≡ true = ap is_name (sym z) ∙ h.name
    in let l : s.start < length xs = inside xs h.seen.at (token_of xs h.seen.at) (stands xs h.seen.at) n
    in let e : p ≡ s.start = h.place ∙ ap (λ (y : Terminal). y.start) z
    in omega arith

pub name_placed : {xs : List ℕ} {p : ℕ} → length xs ≤ max_text_bytes → NameAt xs p → p < nowhere
name_placed l h = omega (arith, name_inside h)
