-- What the functions that write words leave.
-- Assumes nothing.
use Prim.Native.Nat.{ℕ, ◌*◌, ◌-◌, ◌≤◌, ◌<◌}
use mathlib.Core.Path.{◌≡◌, ap, ◌∙◌}
use mathlib.Core.List.{List}
use borrow.Author.Tests.{lt-ltb, le-leb}
use lib.ListN.{get_or, set}
use Rattle.basis.specs.Limits.{max_constructs, max_terms}
use Rattle.text_store.specs.Store.{room, put_words, put_node, marked_tag, put_single}

-- ---- single terms

pub single_first : (ts : List ℕ) (t v : ℕ) → t ≡ 0 → v ≡ marked_tag (get_or ts 0 0) → set ts 0 v ≡ put_single ts t
unfolding put_single
single_first ts t v e z = rw (e, z)

pub single_later : (ts : List ℕ) (t v : ℕ) → t ≤ max_terms → v ≡ marked_tag (get_or ts (4 * (t - 1)) 0) → set ts (4 * (t - 1)) v ≡ put_single ts t
unfolding put_single
single_later ts t v h z = rw (le-leb t max_terms h, z)

-- ---- nodes

pub node_put : (ns ms qs : List ℕ) (i kind size place a b f e how : ℕ) → i < max_constructs → ms ≡ room ns i → qs ≡ put_words ms (10 * i) kind size place a b f e how → qs ≡ put_node ns i kind size place a b f e how
unfolding put_node
node_put ns ms qs i kind size place a b f e how h m q = rw (lt-ltb i max_constructs h) (q ∙ ap (λ (l : List ℕ). put_words l (10 * i) kind size place a b f e how) m)
