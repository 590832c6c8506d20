-- Nodes in the order of their directories and names.
use Rattle.std.specs.Prelude.{◌≡◌, ◌≢◌, ℕ, true, false, if◌then◌else◌, List, [], ◌∷◌}
use Rattle.std.specs.Prelude.{Option, Some, None, slice_get}
use Rattle.std.specs.List.{AllByRecursion}
use Rattle.slab.specs.Slab.{Slab, ContainsKey, get}
use Rattle.file_tree.specs.declared.store.node.Hook.{Hook}
use Rattle.file_tree.specs.declared.store.node.Hook.TheVariants.{Root, Removed, In}
use Rattle.file_tree.specs.declared.store.node.Node.{Node}
use Rattle.file_tree.specs.rules.Files.{is_before}
use Rattle.file_tree.specs.Links.{hook_held, child_in, is_in}
use Rattle.file_tree.specs.Store.Stored.{stored}
use Rattle.file_tree.specs.Store.Cuts.{HasElement, AreOrdered, IsCut}

-- The number of a directory and a name in it, as one list. In the order of these lists nodes of
-- one directory are together, by their names. What has no name has no address.
abbrev pub address_of : Hook → List ℕ
address_of Root = []
address_of Removed = []
address_of (In d name) = d ∷ name

-- the address of the node at a key
abbrev pub address_at : Slab Node → ℕ → List ℕ
address_at slab key = address_of (hook_held (get slab key))

-- an address is after this one
abbrev pub IsBehind : List ℕ → List ℕ → Type 0
IsBehind from address = is_before from address ≡ true

-- it doesn't
abbrev pub IsUpTo : List ℕ → List ℕ → Type 0
IsUpTo from address = is_before from address ≡ false

-- so the address of the node at a key
abbrev pub KeyBehind : List ℕ → Slab Node → ℕ → Type 0
KeyBehind from slab key = IsBehind from (address_at slab key)

abbrev pub KeyUpTo : List ℕ → Slab Node → ℕ → Type 0
KeyUpTo from slab key = IsUpTo from (address_at slab key)

-- each key has a node, and they are in the order of addresses
pub record AreByAddress (slab : Slab Node) (keys : List ℕ) : Type 0 where
  pub present : AllByRecursion (ContainsKey slab) keys
  pub ordered : AreOrdered (λ j k. IsBehind (address_at slab j) (address_at slab k)) keys

-- The keys of all nodes that have an address, in their order; but none of those left out.
pub record AreNamed (Out : ℕ → Type 0) (address : ℕ → List ℕ) (order names : List ℕ) : Type 0 where
  pub ordered : AreOrdered (λ j k. IsBehind (address j) (address k)) names
  pub among : (k : ℕ) → HasElement names k → HasElement order k
  pub hung : (k : ℕ) → HasElement names k → address k ≢ []
  pub without : (k : ℕ) → HasElement names k → Out k → ⊥
  pub all : (k : ℕ) → HasElement order k → address k ≢ [] → (Out k → ⊥) → HasElement names k

-- no key is left out
abbrev pub NoKey : ℕ → Type 0
NoKey k = ⊥

-- this key alone is left out
abbrev pub OnlyKey : ℕ → ℕ → Type 0
OnlyKey key k = k ≡ key

-- the keys are cut after an address
abbrev pub IsCutBehind : List ℕ → Slab Node → List ℕ → ℕ → Type 0
IsCutBehind from slab keys place = IsCut (KeyUpTo from slab) (KeyBehind from slab) keys place

-- no other key has its address
abbrev pub IsFreeKey : Slab Node → List ℕ → ℕ → Type 0
IsFreeKey slab keys key =
    (k : ℕ) → HasElement keys k → address_at slab k ≢ address_at slab key

-- a key that was left out is named too
abbrev pub GetsKey : Slab Node → ℕ → List ℕ → List ℕ → Type 0
GetsKey slab key old new =
    (order : List ℕ) → HasElement order key → AreNamed (OnlyKey key) (address_at slab) order old
    → AreNamed NoKey (address_at slab) order new

-- a key is left out
abbrev pub LosesKey : Slab Node → ℕ → List ℕ → List ℕ → Type 0
LosesKey slab key old new =
    (order : List ℕ) → AreNamed NoKey (address_at slab) order old
    → AreNamed (OnlyKey key) (address_at slab) order new

-- no node hangs where this hook says
abbrev pub IsFreeHook : Hook → List Node → Type 0
IsFreeHook Root ns = Unit {0}
IsFreeHook Removed ns = Unit {0}
IsFreeHook (In d name) ns = child_in ns d name ≡ None

-- a node that is there, if it hangs in this directory
abbrev pub in_directory : ℕ → Option Node → Option Node
in_directory d None = None
in_directory d (Some n) = if is_in d n.hook then Some n else None

-- the node of the key at a place
abbrev pub named_node : Slab Node → List ℕ → ℕ → Option Node
named_node slab keys place = slice_get (stored slab keys) place
