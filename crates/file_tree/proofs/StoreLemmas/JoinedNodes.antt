-- Nodes with the bytes of their files: what they share with those in the slab, and what a change of
-- one file leaves of the others.
use Rattle.std.proofs.Common.{◌≡◌, ℕ, zero, suc, ◌<◌, Bool, true, false, cond, List, [], ◌∷◌, ◌++◌}
use Rattle.std.proofs.Common.{length, get_or, Option, Some, None, refl, sym, ap, ◌∙◌, arith, take}
use Rattle.std.specs.Prelude.{option_map}
use Rattle.std.specs.List.{AllByRecursion, concat}
use Rattle.file_tree.specs.declared.store.node.Hook.{Hook}
use Rattle.file_tree.specs.declared.store.node.Hook.TheVariants.{Root, Removed, In}
use Rattle.file_tree.specs.declared.store.node.NodeContent.{NodeContent}
use Rattle.file_tree.specs.declared.store.node.NodeContent.TheVariants.{Directory, File}
use Rattle.file_tree.specs.declared.store.node.Node.{Node}
use Rattle.file_tree.specs.rules.Files.{Name, is_directory_content}
use Rattle.file_tree.specs.Links.{content_shown, file_bytes_of, child_in, is_hooked, name_of_hook}
use Rattle.file_tree.specs.Nearest.{nearest_node, next_node, node_listed, is_nearer, IsCountListed}
use Rattle.file_tree.specs.Store.Bodies.{Chunks, FileBody, InChunks, Joined, len_of}
use Rattle.file_tree.specs.Store.Bodies.{bytes_of_file, HasChunks}
use Rattle.file_tree.specs.Store.Changes.{with_content}
use Rattle.file_tree.specs.Store.Cuts.{AreOrdered}
use Rattle.file_tree.specs.Store.Joined.{file_body, joined_content, joined_node, joined_nodes}
use Rattle.file_tree.specs.Store.Joined.{kept_number, IsKeptAs, new_node}
use Rattle.file_tree.specs.Store.Kept.{IsLower}
use Rattle.file_tree.specs.Store.Named.{IsFreeHook}
use Rattle.file_tree.specs.Store.Stored.{stored, changed}
use Rattle.file_tree.proofs.StoreLemmas.Sized.{size_is}

-- ---- what hangs on numbers and hooks alone

module _ (chunks : Chunks) where
  pub length-joined_nodes : (ns : List Node) → length (joined_nodes chunks ns) ≡ length ns
  length-joined_nodes [] = refl
  length-joined_nodes (n ∷ ns) = ap suc (length-joined_nodes ns)

  pub within_nodes : (ns : List Node) (i : ℕ) (now : List Node) → joined_nodes chunks ns ≡ now
      → i < length now → i < length ns
  within_nodes ns i now e lt = omega (arith, length-joined_nodes ns, ap length e, lt)

  pub rising_joined : (ns : List Node) → AreOrdered IsLower ns
      → AreOrdered IsLower (joined_nodes chunks ns)
  rising_joined [] h = tt
  rising_joined (n ∷ ns) h = (lower ns h.0, rising_joined ns h.1) where
    lower : (ms : List Node) → AllByRecursion (IsLower n) ms
        → AllByRecursion (IsLower (joined_node chunks n)) (joined_nodes chunks ms)
    lower [] g = tt
    lower (m ∷ ms) g = (g.0, lower ms g.1)

  pub lower_joined : (k : ℕ) (ns : List Node)
      → AllByRecursion (λ (n : Node). n.number < k) (joined_nodes chunks ns)
      → AllByRecursion (λ (n : Node). n.number < k) ns
  lower_joined k [] h = tt
  lower_joined k (n ∷ ns) h = (h.0, lower_joined k ns h.1)

  pub child_joined : (ns : List Node) (d : ℕ) (name : Name)
      → child_in (joined_nodes chunks ns) d name ≡ child_in ns d name
  child_joined [] d name = refl
  child_joined (n ∷ ns) d name =
      ap (λ (o : Option ℕ). cond (is_hooked d name n.hook) (Some n.number) o)
      (child_joined ns d name)

  pub free_joined : (hook : Hook) (ns : List Node) → IsFreeHook hook (joined_nodes chunks ns)
      → IsFreeHook hook ns
  free_joined Root ns h = tt
  free_joined Removed ns h = tt
  free_joined (In d name) ns h = sym (child_joined ns d name) ∙ h

  abbrev join : Option Node → Option Node
  join o = option_map (joined_node chunks) o

  nearer_joined : (d : ℕ) (name : Name) (o : Option Node) (hook : Hook)
      → is_nearer d name (join o) hook ≡ is_nearer d name o hook
  nearer_joined d name None hook = refl
  nearer_joined d name (Some n) hook = refl

  nearest_joined : (d : ℕ) (name : Name) (o : Option Node) (ns : List Node)
      → nearest_node d name (join o) (joined_nodes chunks ns) ≡ join (nearest_node d name o ns)
  nearest_joined d name o [] = refl
  nearest_joined d name o (n ∷ ns) =
      ap (λ (p : Option Node). nearest_node d name p (joined_nodes chunks ns))
      (ap (λ (b : Bool). cond b (Some (joined_node chunks n)) (join o))
      (nearer_joined d name o n.hook) ∙ by_test (is_nearer d name o n.hook))
      ∙ nearest_joined d name (cond (is_nearer d name o n.hook) (Some n) o) ns where
        by_test : (b : Bool)
            → cond b (Some (joined_node chunks n)) (join o) ≡ join (cond b (Some n) o)
        by_test true = refl
        by_test false = refl

  number_joined : (o : Option Node) → option_map kept_number (join o) ≡ option_map kept_number o
  number_joined None = refl
  number_joined (Some n) = refl

  pub nearest_number : (d : ℕ) (name : Name) (ns : List Node)
      → option_map kept_number (nearest_node d name None (joined_nodes chunks ns))
      ≡ option_map kept_number (nearest_node d name None ns)
  nearest_number d name ns =
      ap (option_map kept_number) (nearest_joined d name None ns)
      ∙ number_joined (nearest_node d name None ns)

  listed_joined : (ns : List Node) (d i : ℕ)
      → node_listed (joined_nodes chunks ns) d i ≡ join (node_listed ns d i)
  listed_joined ns d zero = nearest_joined d [] None ns
  listed_joined ns d (suc i) =
      ap (next_node (joined_nodes chunks ns) d) (listed_joined ns d i)
      ∙ next (node_listed ns d i) where
        next : (o : Option Node)
            → next_node (joined_nodes chunks ns) d (join o) ≡ join (next_node ns d o)
        next None = refl
        next (Some n) = by_hook n.hook where
          by_hook : (h : Hook) → nearest_node d (name_of_hook h) None (joined_nodes chunks ns)
              ≡ join (nearest_node d (name_of_hook h) None ns)
          by_hook h = nearest_joined d (name_of_hook h) None ns

  pub listed_number : (ns : List Node) (d i : ℕ)
      → option_map kept_number (node_listed (joined_nodes chunks ns) d i)
      ≡ option_map kept_number (node_listed ns d i)
  listed_number ns d i =
      ap (option_map kept_number) (listed_joined ns d i) ∙ number_joined (node_listed ns d i)

  join_none : (o : Option Node) → join o ≡ None → o ≡ None
  join_none None e = refl
  join_none (Some n) e = absurd cc

  pub count_joined : (ns : List Node) (d count : ℕ) → IsCountListed ns d count
      → IsCountListed (joined_nodes chunks ns) d count
  count_joined ns d count h = record {
    some = λ i lt none. h.some i lt (join_none (node_listed ns d i)
        (sym (listed_joined ns d i) ∙ none));
    no_more = listed_joined ns d count ∙ ap join h.no_more;
  }

  -- ---- nodes that are changed, added or taken out

  pub changed_joined : (f g : Node → Node) (i : ℕ) (ns : List Node)
      → ((n : Node) → joined_node chunks (f n) ≡ g (joined_node chunks n))
      → joined_nodes chunks (changed f i ns) ≡ changed g i (joined_nodes chunks ns)
  changed_joined f g i [] same = refl
  changed_joined f g zero (n ∷ ns) same =
      ap (λ (m : Node). m ∷ joined_nodes chunks ns) (same n)
  changed_joined f g (suc i) (n ∷ ns) same =
      ap (λ (ms : List Node). joined_node chunks n ∷ ms) (changed_joined f g i ns same)

  pub added_joined : (ns : List Node) (n : Node) → file_body n.content ≡ InChunks [] 0
      → joined_nodes chunks (ns ++ n ∷ []) ≡ joined_nodes chunks ns ++ new_node n ∷ []
  added_joined [] n e = ap (λ (m : Node). m ∷ []) (fresh n.content e) where
    fresh : (c : NodeContent) → file_body c ≡ InChunks [] 0
        → joined_node chunks (with_content c n) ≡ new_node (with_content c n)
    fresh Directory e = refl
    fresh (File body) e = ap (λ (b : FileBody). with_content (File (Joined
        (bytes_of_file chunks b))) n) e
  added_joined (m ∷ ns) n e =
      ap (λ (ms : List Node). joined_node chunks m ∷ ms) (added_joined ns n e)

  pub at_joined : (ns : List Node) (i : ℕ) (d e : Node) → i < length ns
      → get_or (joined_nodes chunks ns) i e ≡ joined_node chunks (get_or ns i d)
  at_joined [] i d e lt = absurd (omega (arith, lt))
  at_joined (n ∷ ns) zero d e lt = refl
  at_joined (n ∷ ns) (suc i) d e lt = at_joined ns i d e (omega (arith, lt))

  pub node_joined : (ns : List Node) (i : ℕ) (n m : Node) → i < length ns → n ≡ get_or ns i n
      → m ≡ get_or (joined_nodes chunks ns) i m → m ≡ joined_node chunks n
  node_joined ns i n m lt e f = f ∙ at_joined ns i n m lt ∙ ap (joined_node chunks) (sym e)

  pub bytes_joined : (n : Node) → file_bytes_of (joined_node chunks n)
      ≡ bytes_of_file chunks (file_body n.content)
  bytes_joined n = by_content n.content where
    by_content : (c : NodeContent) → file_bytes_of (joined_node chunks (with_content c n))
        ≡ bytes_of_file chunks (file_body c)
    by_content Directory = refl
    by_content (File body) = refl

  pub directory_joined : (c : NodeContent)
      → is_directory_content (content_shown c)
      ≡ is_directory_content (content_shown (joined_content chunks c))
  directory_joined Directory = refl
  directory_joined (File body) = refl

  pub held_size : (f : FileBody) → HasChunks chunks f → length (bytes_of_file chunks f) ≡ len_of f
  held_size (InChunks keys len) h =
      size_is (stored chunks keys) len h.shape (take len (concat (stored chunks keys))) refl
  held_size (Joined bytes) h = refl

  pub kept_as : (n : Node) → HasChunks chunks (file_body n.content)
      → IsKeptAs n (joined_node chunks n)
  kept_as n h = record {
    number = refl;
    hook = refl;
    directory = directory_joined n.content;
    size = sym (ap length (bytes_joined n) ∙ held_size (file_body n.content) h);
  }
