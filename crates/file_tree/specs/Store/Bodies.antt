-- Files whose bytes lie in the chunks of one slab.
use Rattle.std.specs.Prelude.{◌≡◌, ◌⊎◌, ℕ, ◌+◌, List, [], length, take, None}
use Rattle.std.specs.List.{concat}
use Rattle.slab.specs.Slab.{Slab, ContainsKey, get, slab_len}
use Rattle.file_tree.specs.Store.Stored.{stored, AreStored}
use Rattle.file_tree.specs.Store.Chunked.{AreFull, AreChunks}
use Rattle.file_tree.specs.Store.Cuts.{HasElement}

-- the chunks of all files
abbrev pub Chunks : Type 0
Chunks = Slab (List ℕ)

-- What a file is. The slab of nodes has the keys of its chunks, and how many bytes lie in them. The
-- list of nodes, as contracts see it, has the bytes.
pub data FileBody : Type 0 where
  InChunks : (keys : List ℕ) (len : ℕ) → FileBody
  Joined : (bytes : List ℕ) → FileBody

-- the keys of its chunks, in their order
abbrev pub keys_of : FileBody → List ℕ
keys_of (InChunks keys len) = keys
keys_of (Joined bytes) = []

-- how many bytes it has
abbrev pub len_of : FileBody → ℕ
len_of (InChunks keys len) = len
len_of (Joined bytes) = length bytes

-- its bytes: so many of those of its chunks, joined in their order
abbrev pub bytes_of_file : Chunks → FileBody → List ℕ
bytes_of_file chunks (InChunks keys len) = take len (concat (stored chunks keys))
bytes_of_file chunks (Joined bytes) = bytes

-- the bytes of one that is seen so
abbrev pub joined_bytes : FileBody → List ℕ
joined_bytes (InChunks keys len) = []
joined_bytes (Joined bytes) = bytes

-- keys of chunks that are there and have all their bytes
pub record AreFullAt (chunks : Chunks) (keys : List ℕ) : Type 0 where
  pub are : AreStored chunks keys
  pub full : AreFull (stored chunks keys)

-- the chunks of a file are there: no more than it takes, and zeros after its bytes
pub record HasChunks (chunks : Chunks) (f : FileBody) : Type 0 where
  pub are : AreStored chunks (keys_of f)
  pub shape : AreChunks (stored chunks (keys_of f)) (len_of f)

-- The keys of one file were these, and are others now. What is new among them was free before. All
-- chunks of other files stay, and no further one comes or goes.
pub record Rekeys (old new : Chunks) (before after : List ℕ) : Type 0 where
  pub fresh : (k : ℕ) → HasElement after k → HasElement before k ⊎ (get old k ≡ None)
  pub others : (k : ℕ) → ContainsKey old k → (HasElement before k → ⊥) → get new k ≡ get old k
  pub count : slab_len new + length before ≡ slab_len old + length after

-- one file becomes another one, of these bytes
pub record TurnsInto (old new : Chunks) (f g : FileBody) (bytes : List ℕ) : Type 0 where
  pub held : HasChunks new g
  pub bytes_are : bytes_of_file new g ≡ bytes
  pub rekeyed : Rekeys old new (keys_of f) (keys_of g)
