-- Renaming, path by path.
use Rattle.std.proofs.Common.{◌≡◌, ℕ, List, [], ◌∷◌, ◌++◌, Some, true, ◌==◌, refl, ap, arith}
use Rattle.std.specs.Prelude.{map, option_map}
use Rattle.std.proofs.lemmas.Bool.Decides.{nat_tests}
use Rattle.file_tree.specs.rules.Files.{Name, Path, FileNode, is_same_name, path_behind}
use Rattle.file_tree.specs.rules.Files.{with_new_front, path_moved}
use Rattle.file_tree.specs.laws.Laws.{node_number, content_of, RenameMovesASubtree}

same_number : (b : ℕ) → (b == b) ≡ true
same_number b = grind (arith, nat_tests)

same_name : (name : Name) → is_same_name name name ≡ true
same_name [] = refl
same_name (b ∷ name) = rw (same_number b, same_name name) refl

pub behind_front : (old rest : Path) → path_behind old (old ++ rest) ≡ Some rest
behind_front [] rest = refl
behind_front (name ∷ old) rest = rw (same_name name) (behind_front old rest)

kept_numbers : (old new : Path) (nodes : List FileNode)
    → map node_number
    (map (λ (n : FileNode). record n { path = option_map (path_moved old new) n.path }) nodes)
    ≡ map node_number nodes
kept_numbers old new [] = refl
kept_numbers old new (n ∷ nodes) = ap (λ z. n.number ∷ z) (kept_numbers old new nodes)

kept_contents : (old new : Path) (nodes : List FileNode)
    → map content_of
    (map (λ (n : FileNode). record n { path = option_map (path_moved old new) n.path }) nodes)
    ≡ map content_of nodes
kept_contents old new [] = refl
kept_contents old new (n ∷ nodes) = ap (λ z. n.content ∷ z) (kept_contents old new nodes)

pub moves : RenameMovesASubtree
moves = record {
  below = λ old new rest. ap (with_new_front new (old ++ rest)) (behind_front old rest);
  others = λ old new p e. ap (with_new_front new p) e;
  numbers = λ old new fs. kept_numbers old new fs.nodes;
  contents = λ old new fs. kept_contents old new fs.nodes;
}
