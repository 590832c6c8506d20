-- Paths that a guest gives: their form, and where a walk along them ends (this project's profile).
use Rattle.std.specs.Prelude.{ℕ, ◌==◌, ◌||◌, not, nat_le, if◌then◌else◌, Bool, false, List, [], ◌∷◌}
use Rattle.std.specs.Prelude.{length, filter, Option, Some, None, Result, Ok, Err}
use Rattle.std.specs.List.{list_any, list_all}
use Rattle.std.specs.Str.{is_utf8}
use Rattle.wasi_abi.specs.declared.errno.Errno.TheVariants.{Ilseq, Inval, Nametoolong, Noent}
use Rattle.wasi_abi.specs.declared.errno.Errno.TheVariants.{Notdir, Notcapable}
use Rattle.file_tree.specs.rules.Files.{Name, Files, slash, dot, child, is_directory, is_same_name}
use Rattle.file_tree.specs.declared.limits.TheConstants.{PATH_BYTES, NAME_BYTES}
use Rattle.wasi_calls_rules.specs.Checks.{Halt, Refuses, ◌>>=◌, check_or}

-- ---- form

-- a byte put in front of the first part
abbrev pub onto_first : ℕ → List Name → List Name
onto_first b [] = (b ∷ []) ∷ []
onto_first b (part ∷ parts) = (b ∷ part) ∷ parts

-- the parts between slashes
abbrev pub parts_of : List ℕ → List Name
parts_of [] = [] ∷ []
parts_of (b ∷ bytes) = if b == slash then [] ∷ parts_of bytes else onto_first b (parts_of bytes)

-- an empty part, or `.`
abbrev pub is_dropped : Name → Bool
is_dropped name = is_same_name name [] || is_same_name name (dot ∷ [])

-- `..`
abbrev pub is_back : Name → Bool
is_back name = is_same_name name (dot ∷ dot ∷ [])

-- these bytes begin with this one
abbrev pub begins_with : List ℕ → ℕ → Bool
begins_with [] b = false
begins_with (c ∷ bytes) b = c == b

-- the parts that a walk goes along
abbrev pub names_of : List ℕ → List Name
names_of bytes = filter (λ name. not (is_dropped name)) (parts_of bytes)

-- the parts of a path, or why it has no form: the checks in their order
abbrev pub formed : List ℕ → Result (List Name) Halt
formed bytes =
    check_or (not (length bytes == 0)) Noent >>= λ _.
    check_or (nat_le (length bytes) PATH_BYTES) Nametoolong >>= λ _.
    check_or (is_utf8 bytes) Ilseq >>= λ _.
    check_or (not (list_any (λ b. b == 0) bytes)) Inval >>= λ _.
    check_or (not (begins_with bytes slash)) Notcapable >>= λ _.
    check_or (list_all (λ (name : Name). nat_le (length name) NAME_BYTES) (names_of bytes))
    Nametoolong >>= λ _.
    Ok (names_of bytes)

-- ---- the walk

-- where a walk ends: at a directory, by a self path, or at a name in one
pub data WalkEnd : Type 0 where
  Self : ℕ → WalkEnd
  Leaf : ℕ → Name → WalkEnd

-- a walk goes on in a directory that is there
abbrev pub directory_entered : Files → Option ℕ → Result ℕ Halt
directory_entered fs None = Err (Refuses Noent)
directory_entered fs (Some k) = if is_directory fs k then Ok k else Err (Refuses Notdir)

-- back to the directory before. Where the walk began there is none
abbrev pub backed : (ℕ → List ℕ → Result WalkEnd Halt) → List ℕ → Result WalkEnd Halt
backed walk_on [] = Err (Refuses Notcapable)
backed walk_on (d ∷ behind) = walk_on d behind

-- the last name is the leaf, and isn't walked; another one has to be a directory
abbrev pub onward : Files → ℕ → Name → List Name → (ℕ → Result WalkEnd Halt) → Result WalkEnd Halt
onward fs d name [] walk_on = Ok (Leaf d name)
onward fs d name (next ∷ names) walk_on = directory_entered fs (child fs d name) >>= walk_on

-- from directory d, reached through those after it, the last one first, along the names
abbrev pub walk : Files → ℕ → List ℕ → List Name → Result WalkEnd Halt
walk fs d behind [] = Ok (Self d)
walk fs d behind (name ∷ names) =
    if is_back name then backed (λ b others. walk fs b others names) behind
    else onward fs d name names (λ k. walk fs k (d ∷ behind) names)

-- the node at a place
abbrev pub node_at : Files → WalkEnd → Option ℕ
node_at fs (Self k) = Some k
node_at fs (Leaf d name) = child fs d name
