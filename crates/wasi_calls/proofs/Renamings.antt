-- Nodes that move to another name, and what they replace.
use Rattle.std.proofs.Common.{◌≡◌, ◌≢◌, ℕ, ◌++◌, true, false, [], ◌∷◌, length, refl, sym, ap, ◌∙◌}
use Rattle.std.proofs.Common.{arith, length-append}
use Rattle.std.specs.Prelude.{Option, Some, None, Ok, is_some, unwrap_or}
use Rattle.std.specs.Option.{option_and_then}
use Rattle.std.proofs.lemmas.Bool.{eq-eqb}
use Rattle.file_tree.specs.rules.Changes.{CanMove, is_within, within_path, path_at}
use Rattle.file_tree.specs.rules.Files.{Name, Path, FileNode, Files, IsFiles, path_of, child}
use Rattle.file_tree.specs.rules.Files.{is_directory, holds_directory, renamed, path_behind}
use Rattle.file_tree.proofs.Seen.{some_path}
use Rattle.wasi_calls_rules.specs.WasiStates.{WasiState, IsWasiState}
use Rattle.wasi_calls_rules.specs.Entries.{is_directory_empty, is_within_node, is_same_node}
use Rattle.wasi_calls_rules.specs.Entries.{gives_way, renamed_over, whole_path, without}
use Rattle.wasi_calls_rules.specs.Checks.{Bytes}
use Rattle.wasi_calls_rules.specs.Paths.{Leaf}
use Rattle.wasi_calls_rules.proofs.KeepsWasiStates.{file_state, with_file_state, losing_kept}
use Rattle.wasi_calls_rules.proofs.KeepsWasiStates.{way_empty, child_not_root}
use Rattle.wasi_calls_rules.proofs.NodesAfter.{child_path, child_parent}
use Rattle.wasi_calls_rules.proofs.FileState.{cleared_other, free_then, moved_kept, path_at_is}
use Rattle.wasi_calls.specs.Renamings.{MayTake, place_renamed}

-- the two words for a directory in a node say the same
pub within_is : (fs : Files) (k d : ℕ) → is_within fs k d ≡ is_within_node fs k d
within_is fs k d = by (path_of fs k) (path_of fs d) refl refl where
  by : (o p : Option Path) → path_of fs k ≡ o → path_of fs d ≡ p
      → is_within fs k d ≡ is_within_node fs k d
  by None p e f = rw e refl
  by (Some a) None e f = rw (e, f) refl
  by (Some a) (Some b) e f = rw (e, f) refl

-- a path that is there
has_path : (fs : Files) (k : ℕ) → is_some (path_of fs k) ≡ true
    → path_of fs k ≡ Some (path_at fs k)
has_path fs k is = by (path_of fs k) is where
  by : (o : Option Path) → is_some o ≡ true → o ≡ Some (unwrap_or o [])
  by None e = absurd (cc)
  by (Some p) e = refl

-- a node that may move leaves a host
pub moved_host : (h : WasiState) (k d : ℕ) (name : Name) → IsWasiState h → CanMove h.files k d name
    → IsWasiState (record h {
      files =
          renamed (path_at h.files k) (path_at h.files d ++ name ∷ []) h.files;
    })
moved_host h k d name is can =
    let fs = h.files in
    let own = has_path fs k can.there in
    let above = has_path fs d can.free.path in
    let outside : is_some (path_behind (path_at fs k) (path_at fs d)) ≡ false =
    sym (ap (λ (o : Option Path). within_path o (path_of fs d)) own
    ∙ ap (within_path (Some (path_at fs k))) above) ∙ can.outside in
    with_file_state h (renamed (path_at fs k) (path_at fs d ++ name ∷ []) fs) h.descriptors is
    (moved_kept fs h.descriptors h.room k (path_at fs k) d (path_at fs d) name (file_state h is)
    (record {
      not_root = can.not_root;
      path = own;
      parent = above;
      directory = can.free.is_directory;
      named = can.free.named;
      outside = outside;
      free = can.free.free;
    }))

-- where nothing is at the target
pub moves_free : (fs : Files) (k d : ℕ) (name : Name) → IsFiles fs → MayTake fs k d name None
    → CanMove fs k d name
moves_free fs k d name are t =
    let e = t.there.0 in
    let own = t.there.1 in
    let above = child_parent fs e k own t.there.2 in
    let path = child_path fs e k own above.0 are above.1 t.there.2 in
    record {
      not_root = child_not_root fs k above.0 own are path;
      there = ap is_some path;
      free = record {
        is_directory = t.directory;
        path = t.path;
        free = t.over;
        named = t.named;
      };
      outside = within_is fs k d ∙ t.outside;
    }

-- the path of a child, from its directory's
pub child_at : (fs : Files) (d k : ℕ) (name : Name) → IsFiles fs → is_some (path_of fs d) ≡ true
    → child fs d name ≡ Some k → path_at fs k ≡ path_at fs d ++ name ∷ []
child_at fs d k name are is there =
    path_at_is fs k (path_at fs d ++ name ∷ [])
    (child_path fs d k name (path_at fs d) are (has_path fs d is) there)

-- ---- the rule, once all has been tested

pub place_moved : (h : WasiState) (d e k : ℕ) (name other : Name) (o : Option ℕ) (after : WasiState)
    (m : Bytes) (u : Unit {0}) → IsFiles h.files → is_some (path_of h.files d) ≡ true
    → child h.files d name ≡ Some k
    → whole_path h.files d name ≡ Ok (path_at h.files d ++ name ∷ [])
    → whole_path h.files e other ≡ Ok (path_at h.files e ++ other ∷ [])
    → is_within_node h.files k e ≡ false → child h.files e other ≡ o → is_same_node k o ≡ false
    → gives_way h.files k o ≡ Ok u
    → after ≡ renamed_over k o (path_at h.files k) (path_at h.files e ++ other ∷ []) h
    → place_renamed (Leaf d name) (Leaf e other) m h ≡ Ok (record { memory = m; host = after })
place_moved h d e k name other o after m u are dir there from to outside over differ way is =
    let own = child_at h.files d k name are dir there in
    let same : after
    ≡ renamed_over k o (path_at h.files d ++ name ∷ []) (path_at h.files e ++ other ∷ []) h =
    is ∙ ap (λ (p : Path). renamed_over k o p (path_at h.files e ++ other ∷ []) h) own in
    rw (there, from, to, outside, over, differ, way, same) refl

-- ---- what is replaced

module _ (h : WasiState) (k d j : ℕ) (name : Name) (is : IsWasiState h)
    (t : MayTake h.files k d name (Some j)) where
  pub replaced_empty : is_directory h.files j ≡ true → is_directory_empty h.files j ≡ true
  replaced_empty = (way_empty h.files k j).holds tt t.way

  abbrev fs : Files
  fs = h.files

  above : path_of h.files d ≡ Some (path_at h.files d)
  above = has_path h.files d t.path

  replaced_path : path_of h.files j ≡ Some (path_at h.files d ++ name ∷ [])
  replaced_path = child_path h.files d j name (path_at h.files d) is.files above t.over

  other : d ≢ j
  other same =
      let longer : path_at h.files d ≡ path_at h.files d ++ name ∷ [] =
      some_path (path_at h.files d) (path_at h.files d ++ name ∷ [])
      (sym above ∙ ap (path_of h.files) same ∙ replaced_path) in
      let size = ap (λ (p : Path). length p) longer in
      absurd (omega (arith, size, length-append (path_at h.files d) (name ∷ [])))

  differ : k ≢ j
  differ same = absurd (let e = eq-eqb j k (sym same) in let f = t.differ in cc)

  kept : (i : ℕ) → i ≢ j → path_of (without j h).files i ≡ path_of h.files i
  kept i ne =
      ap (option_and_then (λ (n : FileNode). n.path)) (cleared_other h.files h.descriptors j i ne)

  pub kept_paths : (path_at (without j h).files k ≡ path_at h.files k)
      × (path_at (without j h).files d ≡ path_at h.files d)
  kept_paths = (
    ap (λ (o : Option Path). unwrap_or o []) (kept k differ),
    ap (λ (o : Option Path). unwrap_or o []) (kept d other),
  )

  pub moves_over : CanMove (without j h).files k d name
  moves_over =
      let e = t.there.0 in
      let own = t.there.1 in
      let from = child_parent h.files e k own t.there.2 in
      let path = child_path h.files e k own from.0 is.files from.1 t.there.2 in
      let after = losing_kept h d j name is t.over replaced_empty in
      record {
        not_root = child_not_root h.files k from.0 own is.files path;
        there = ap is_some (kept k differ ∙ path);
        free = record {
          is_directory =
              ap holds_directory (cleared_other h.files h.descriptors j d other) ∙ t.directory;
          path = ap is_some (kept d other ∙ above);
          free = free_then h.files h.descriptors j h.room d (path_at h.files d) name
              (file_state h is) after above other replaced_path;
          named = t.named;
        };
        outside = ap (λ (o : Option Path). within_path o (path_of (without j h).files d))
            (kept k differ)
            ∙ ap (within_path (path_of h.files k)) (kept d other) ∙ within_is h.files k d
            ∙ t.outside;
      }
