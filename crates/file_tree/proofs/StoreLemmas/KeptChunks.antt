-- The chunks of all files, where one file turns into another one, comes or goes.
use Rattle.std.proofs.Common.{◌≡◌, ◌⊎◌, inl, inr, ℕ, zero, suc, ◌+◌, ◌<◌, false, List, [], ◌∷◌}
use Rattle.std.proofs.Common.{◌++◌, length, take, get_or, None, refl, sym, ap, subst, ◌∙◌, arith}
use Rattle.std.specs.Prelude.{Result, Ok, Err, OnOk, OnErr}
use Rattle.std.specs.List.{AllByRecursion, remove, concat}
use Rattle.std.proofs.lemmas.List.Sums.{sum_by-cons, sum_by-remove}
use Rattle.slab.specs.Slab.{ContainsKey, get}
use Rattle.file_tree.specs.declared.store.node.Hook.{Hook}
use Rattle.file_tree.specs.declared.store.node.NodeContent.{NodeContent}
use Rattle.file_tree.specs.declared.store.node.NodeContent.TheVariants.{Directory, File}
use Rattle.file_tree.specs.declared.store.node.Node.{Node}
use Rattle.file_tree.specs.rules.Bytes.{written, resized}
use Rattle.file_tree.specs.rules.Chunks.{chunks_for}
use Rattle.file_tree.specs.rules.Files.{is_directory_content}
use Rattle.file_tree.specs.Links.{content_shown, file_bytes_of, chunks_in}
use Rattle.file_tree.specs.Store.Bodies.{Chunks, FileBody, InChunks, Joined, keys_of, len_of}
use Rattle.file_tree.specs.Store.Bodies.{bytes_of_file, HasChunks, Rekeys, TurnsInto}
use Rattle.file_tree.specs.Store.Changes.{with_hook, with_content, node_written, node_resized}
use Rattle.file_tree.specs.Store.Chunked.{AreChunks}
use Rattle.file_tree.specs.Store.Cuts.{HasElement, AreOrdered}
use Rattle.file_tree.specs.Store.Joined.{file_body, node_keys, joined_node, joined_nodes, AreApart}
use Rattle.file_tree.specs.Store.Joined.{keys_in}
use Rattle.file_tree.specs.Store.Joined.{HaveApartKeys, KeepsFiles, IsKeptAs, ResizesAt, new_node}
use Rattle.file_tree.specs.Store.Stored.{stored, changed}
use Rattle.file_tree.proofs.StoreLemmas.Cuts.{behind_all, ordered_added, ordered_but, all_added}
use Rattle.file_tree.proofs.StoreLemmas.JoinedNodes.{bytes_joined, held_size, kept_as, at_joined}
use Rattle.file_tree.proofs.StoreLemmas.JoinedNodes.{node_joined, directory_joined, within_nodes}
use Rattle.file_tree.proofs.StoreLemmas.JoinedNodes.{added_joined}
use Rattle.file_tree.proofs.StoreLemmas.Keys.{length-stored, not_both, no_keys}
use Rattle.file_tree.proofs.StoreLemmas.Places.{held_by_all}

-- ---- all nodes but one

abbrev AllBut : (Node → Type 0) → List Node → ℕ → Type 0
AllBut P [] i = Unit {0}
AllBut P (n ∷ ns) zero = AllByRecursion P ns
AllBut P (n ∷ ns) (suc i) = P n × AllBut P ns i

all_of : (P Q : Node → Type 0) (ns : List Node) → ((n : Node) → P n → Q n)
    → AllByRecursion P ns → AllByRecursion Q ns
all_of P Q [] f h = tt
all_of P Q (n ∷ ns) f h = (f n h.0, all_of P Q ns f h.1)

-- what two facts give of each
but_of : (P Q R : Node → Type 0) (ns : List Node) (i : ℕ) → ((n : Node) → P n → Q n → R n)
    → AllByRecursion P ns → AllBut Q ns i → AllBut R ns i
but_of P Q R [] i f h g = tt
but_of P Q R (n ∷ ns) zero f h g = both ns h.1 g where
  both : (ms : List Node) → AllByRecursion P ms → AllByRecursion Q ms → AllByRecursion R ms
  both [] h g = tt
  both (m ∷ ms) h g = (f m h.0 g.0, both ms h.1 g.1)
but_of P Q R (n ∷ ns) (suc i) f h g = (f n h.0 g.0, but_of P Q R ns i f h.1 g.1)

all_changed_at : (P : Node → Type 0) (f : Node → Node) (ns : List Node) (i : ℕ) (n : Node)
    → n ≡ get_or ns i n → AllBut P ns i → P (f n) → AllByRecursion P (changed f i ns)
all_changed_at P f [] i n is h p = tt
all_changed_at P f (m ∷ ns) zero n is h p = (subst (λ (x : Node). P (f x)) is p, h)
all_changed_at P f (m ∷ ns) (suc i) n is h p = (h.0, all_changed_at P f ns i n is h.1 p)

all_but_one : (P : Node → Type 0) (ns : List Node) (i : ℕ) → AllByRecursion P ns → AllBut P ns i
all_but_one P [] i h = tt
all_but_one P (n ∷ ns) zero h = h.1
all_but_one P (n ∷ ns) (suc i) h = (h.0, all_but_one P ns i h.1)

all_without_one : (P : Node → Type 0) (ns : List Node) (i : ℕ) → AllBut P ns i
    → AllByRecursion P (remove ns i)
all_without_one P [] zero h = tt
all_without_one P [] (suc i) h = tt
all_without_one P (n ∷ ns) zero h = h
all_without_one P (n ∷ ns) (suc i) h = (h.0, all_without_one P ns i h.1)

-- ---- keys that are apart

flipped : (n : Node) (ms : List Node) → AllByRecursion (HaveApartKeys n) ms
    → AllByRecursion (λ (m : Node). HaveApartKeys m n) ms
flipped n [] h = tt
flipped n (m ∷ ms) h = ((λ k a b. h.0 k b a), flipped n ms h.1)

back : (n : Node) (ms : List Node) → AllByRecursion (λ (m : Node). HaveApartKeys m n) ms
    → AllByRecursion (HaveApartKeys n) ms
back n [] h = tt
back n (m ∷ ms) h = ((λ k a b. h.0 k b a), back n ms h.1)

others_apart : (ns : List Node) (i : ℕ) (n : Node) → n ≡ get_or ns i n → i < length ns
    → AreOrdered HaveApartKeys ns → AllBut (λ (m : Node). HaveApartKeys m n) ns i
others_apart [] i n is lt h = tt
others_apart (m ∷ ns) zero n is lt h =
    subst (λ (x : Node). AllByRecursion (λ (y : Node). HaveApartKeys y x) ns) (sym is)
    (flipped m ns h.0)
others_apart (m ∷ ns) (suc i) n is lt h = (
  subst (HaveApartKeys m) (sym is) (behind_all (HaveApartKeys m) ns i n h.0 (omega (arith, lt))),
  others_apart ns i n is (omega (arith, lt)) h.1,
)

apart_changed : (f : Node → Node) (ns : List Node) (i : ℕ) (n : Node) → n ≡ get_or ns i n
    → AreOrdered HaveApartKeys ns → AllBut (λ (m : Node). HaveApartKeys m (f n)) ns i
    → AreOrdered HaveApartKeys (changed f i ns)
apart_changed f [] i n is h apart = h
apart_changed f (m ∷ ns) zero n is h apart = (
  subst (λ (x : Node). AllByRecursion (HaveApartKeys (f x)) ns) is (back (f n) ns apart),
  h.1,
)
apart_changed f (m ∷ ns) (suc i) n is h apart = (
  all_changed_at (HaveApartKeys m) f ns i n is (all_but_one (HaveApartKeys m) ns i h.0) apart.0,
  apart_changed f ns i n is h.1 apart.1,
)

keys_changed_at : (f : Node → Node) (ns : List Node) (i : ℕ) (n : Node) → n ≡ get_or ns i n
    → i < length ns
    → keys_in (changed f i ns) + length (node_keys n) ≡ keys_in ns + length (node_keys (f n))
keys_changed_at f [] i n is lt = absurd (omega (arith, lt))
keys_changed_at f (m ∷ ns) zero n is lt =
    omega (
      arith,
      sum_by-cons (λ (x : Node). length (node_keys x)) (f m) ns,
      sum_by-cons (λ (x : Node). length (node_keys x)) m ns,
      ap (λ (x : Node). length (node_keys x)) is,
      ap (λ (x : Node). length (node_keys (f x))) is,
    )
keys_changed_at f (m ∷ ns) (suc i) n is lt =
    omega (
      arith,
      sum_by-cons (λ (x : Node). length (node_keys x)) m (changed f i ns),
      sum_by-cons (λ (x : Node). length (node_keys x)) m ns,
      keys_changed_at f ns i n is (omega (arith, lt)),
    )

-- ---- a file of which nothing changes

-- its chunks are there as before, and it has the same bytes
record Stays (old new : Chunks) (n : Node) : Type 0 where
  held : HasChunks new (file_body n.content)
  same : joined_node new n ≡ joined_node old n

module _ (old new : Chunks) (before after : List ℕ) (r : Rekeys old new before after) where
  same_keys : (keys : List ℕ) → AllByRecursion (ContainsKey old) keys → AreApart keys before
      → AllByRecursion (λ k. get new k ≡ get old k) keys
  same_keys [] h apart = tt
  same_keys (k ∷ keys) h apart = (
    r.others k h.0 (apart k (inl refl)),
    same_keys keys h.1 (λ j at. apart j (inr at)),
  )

  same_stored : (keys : List ℕ) → AllByRecursion (λ k. get new k ≡ get old k) keys
      → stored new keys ≡ stored old keys
  same_stored [] h = refl
  same_stored (k ∷ keys) h = rw (h.0, same_stored keys h.1) refl

  same_there : (keys : List ℕ) → AllByRecursion (λ k. get new k ≡ get old k) keys
      → AllByRecursion (ContainsKey old) keys → AllByRecursion (ContainsKey new) keys
  same_there [] h there = tt
  same_there (k ∷ keys) h there = (rw h.0 there.0, same_there keys h.1 there.1)

  stays : (n : Node) → HasChunks old (file_body n.content) → AreApart (node_keys n) before
      → Stays old new n
  stays n h apart =
      let keys = node_keys n in
      let kept = same_keys keys h.are.present apart in
      let chunks = same_stored keys kept in
      record {
        held = record {
          are = record { distinct = h.are.distinct; present = same_there keys kept h.are.present };
          shape = subst (λ (cs : List (List ℕ)). AreChunks cs (len_of (file_body n.content)))
              (sym chunks) h.shape;
        };
        same = by_content n.content chunks;
      } where
        by_body : (f : FileBody) → stored new (keys_of f) ≡ stored old (keys_of f)
            → bytes_of_file new f ≡ bytes_of_file old f
        by_body (InChunks keys len) e = ap (λ (cs : List (List ℕ)). take len (concat cs)) e
        by_body (Joined bytes) e = refl

        by_content : (c : NodeContent)
            → stored new (keys_of (file_body c)) ≡ stored old (keys_of (file_body c))
            → joined_node new (with_content c n) ≡ joined_node old (with_content c n)
        by_content Directory e = refl
        by_content (File body) e =
            ap (λ (bytes : List ℕ). with_content (File (Joined bytes)) n) (by_body body e)

  -- keys that a file has got are in no other one
  fresh_apart : (n : Node) → HasChunks old (file_body n.content) → AreApart (node_keys n) before
      → AreApart (node_keys n) after
  fresh_apart n h apart k at got = by_case (r.fresh k got) where
    by_case : HasElement before k ⊎ (get old k ≡ None) → ⊥
    by_case (inl was) = apart k at was
    by_case (inr none) =
        not_both (get old k) (held_by_all (ContainsKey old) (node_keys n) k h.are.present at) none

-- ---- one file turns into another one

joined_changed_at : (old new : Chunks) (f g : Node → Node) (ns : List Node) (i : ℕ) (n : Node)
    → n ≡ get_or ns i n → AllBut (Stays old new) ns i
    → joined_node new (f n) ≡ g (joined_node old n)
    → joined_nodes new (changed f i ns) ≡ changed g i (joined_nodes old ns)
joined_changed_at old new f g [] i n is h e = refl
joined_changed_at old new f g (m ∷ ns) zero n is h e =
    ap (λ (x : Node). x ∷ joined_nodes new ns)
    (subst (λ (x : Node). joined_node new (f x) ≡ g (joined_node old x)) is e)
    ∙ ap (λ (ms : List Node). g (joined_node old m) ∷ ms) (same ns h) where
      same : (ms : List Node) → AllByRecursion (Stays old new) ms → joined_nodes new ms
          ≡ joined_nodes old ms
      same [] h = refl
      same (x ∷ ms) h = rw (h.0.same, same ms h.1) refl
joined_changed_at old new f g (m ∷ ns) (suc i) n is h e =
    ap (λ (x : Node). x ∷ joined_nodes new (changed f i ns)) h.0.same
    ∙ ap (λ (ms : List Node). joined_node old m ∷ ms)
    (joined_changed_at old new f g ns i n is h.1 e)

pub held_at : (chunks : Chunks) (ns : List Node) (i : ℕ) (n : Node) → KeepsFiles chunks ns
    → i < length ns → n ≡ get_or ns i n → HasChunks chunks (file_body n.content)
held_at chunks ns i n kept lt is =
    subst (λ (m : Node). HasChunks chunks (file_body m.content)) (sym is)
    (behind_all (λ (m : Node). HasChunks chunks (file_body m.content)) ns i n kept.held lt)

module _ (old new : Chunks) (ns : List Node) (i : ℕ) (n : Node) (kept : KeepsFiles old ns)
    (lt : i < length ns) (is : n ≡ get_or ns i n) where
  abbrev Held : Node → Type 0
  Held m = HasChunks old (file_body m.content)

  module _ (after : List ℕ) (r : Rekeys old new (node_keys n) after) where
    others_stay : AllBut (Stays old new) ns i
    others_stay =
        but_of Held (λ (m : Node). HaveApartKeys m n) (Stays old new) ns i
        (stays old new (node_keys n) after r) kept.held (others_apart ns i n is lt kept.apart)

    others_fresh : AllBut (λ (m : Node). AreApart (node_keys m) after) ns i
    others_fresh =
        but_of Held (λ (m : Node). HaveApartKeys m n)
        (λ (m : Node). AreApart (node_keys m) after) ns i
        (fresh_apart old new (node_keys n) after r) kept.held
        (others_apart ns i n is lt kept.apart)

  module _ (content : NodeContent) (bytes : List ℕ)
      (t : TurnsInto old new (file_body n.content) (file_body content) bytes) where
    abbrev f : Node → Node
    f = with_content content

    pub turned_kept : KeepsFiles new (changed f i ns)
    turned_kept =
        let stay = others_stay (keys_of (file_body content)) t.rekeyed in
        record {
          held = all_changed_at (λ (m : Node). HasChunks new (file_body m.content)) f ns i n is
              (but_of Held (Stays old new) (λ (m : Node). HasChunks new (file_body m.content)) ns i
              (λ m h s. s.held) kept.held stay) t.held;
          apart = apart_changed f ns i n is kept.apart
              (others_fresh (keys_of (file_body content)) t.rekeyed);
          count = omega (arith, kept.count, t.rekeyed.count, keys_changed_at f ns i n is lt);
        }

    turned_joined : (g : Node → Node) → joined_node new (f n) ≡ g (joined_node old n)
        → joined_nodes new (changed f i ns) ≡ changed g i (joined_nodes old ns)
    turned_joined g e =
        joined_changed_at old new f g ns i n is
        (others_stay (keys_of (file_body content)) t.rekeyed) e

-- ---- bytes written into a file, and a file of another size

changed_to_own : (ns : List Node) (i : ℕ) (n : Node) → n ≡ get_or ns i n
    → changed (with_content n.content) i ns ≡ ns
changed_to_own [] i n is = refl
changed_to_own (m ∷ ns) zero n is =
    ap (λ (x : Node). with_content x.content m ∷ ns) is
changed_to_own (m ∷ ns) (suc i) n is =
    ap (λ (ms : List Node). m ∷ ms) (changed_to_own ns i n is)

pub seen_file : (old : Chunks) (ns : List Node) (i : ℕ) (n : Node) (now : List Node)
    → joined_nodes old ns ≡ now → i < length ns → n ≡ get_or ns i n
    → ((m : Node) → m ≡ get_or now i m → is_directory_content (content_shown m.content) ≡ false)
    → is_directory_content (content_shown n.content) ≡ false
seen_file old ns i n now e lt is file =
    directory_joined old n.content
    ∙ file (joined_node old n) (sym (subst (λ (ms : List Node). get_or ms i (joined_node old n)
    ≡ joined_node old n) e
    (at_joined old ns i n (joined_node old n) lt ∙ ap (joined_node old) (sym is))))

-- the bytes that are seen of the node at a place
pub seen_bytes : (old : Chunks) (ns : List Node) (i : ℕ) (n m : Node) (now : List Node)
    → joined_nodes old ns ≡ now → i < length ns → n ≡ get_or ns i n → m ≡ get_or now i m
    → bytes_of_file old (file_body n.content) ≡ file_bytes_of m
seen_bytes old ns i n m now e lt is at =
    sym (bytes_joined old n)
    ∙ ap file_bytes_of (sym (node_joined old ns i n m lt is
    (at ∙ ap (λ (ms : List Node). get_or ms i m) (sym e))))

pub seen_node : (old : Chunks) (ns : List Node) (i : ℕ) (n : Node) (now : List Node)
    → joined_nodes old ns ≡ now → i < length ns → n ≡ get_or ns i n
    → joined_node old n ≡ get_or now i (joined_node old n)
seen_node old ns i n now e lt is =
    sym (subst (λ (ms : List Node). get_or ms i (joined_node old n) ≡ joined_node old n) e
    (at_joined old ns i n (joined_node old n) lt ∙ ap (joined_node old) (sym is)))

pub seen_kept : (old : Chunks) (ns : List Node) (i : ℕ) (n : Node) (now : List Node)
    → joined_nodes old ns ≡ now → KeepsFiles old ns → i < length ns → n ≡ get_or ns i n
    → IsKeptAs n (get_or now i n)
seen_kept old ns i n now e kept lt is =
    subst (λ (ms : List Node). IsKeptAs n (get_or ms i n)) e
    (subst (IsKeptAs n) (sym (at_joined old ns i n n lt ∙ ap (joined_node old) (sym is)))
    (kept_as old n (held_at old ns i n kept lt is)))

module _ (old new : Chunks) (ns : List Node) (i : ℕ) (n : Node) (now : List Node)
    (e : joined_nodes old ns ≡ now) (kept : KeepsFiles old ns) (lt : i < length ns)
    (is : n ≡ get_or ns i n)
    (file : is_directory_content (content_shown n.content) ≡ false) where
  module _ (from : ℕ) (bytes : List ℕ) (t : TurnsInto old new (file_body n.content)
      (file_body n.content) (written (bytes_of_file old (file_body n.content)) from bytes)) where
    pub written_kept : KeepsFiles new ns
    written_kept =
        subst (KeepsFiles new) (changed_to_own ns i n is)
        (turned_kept old new ns i n kept lt is n.content
        (written (bytes_of_file old (file_body n.content)) from bytes) t)

    pub written_joined : joined_nodes new ns ≡ changed (node_written from bytes) i now
    written_joined =
        ap (joined_nodes new) (sym (changed_to_own ns i n is))
        ∙ turned_joined old new ns i n kept lt is n.content
        (written (bytes_of_file old (file_body n.content)) from bytes) t (node_written from bytes)
        (by_content n.content file t.bytes_are)
        ∙ ap (changed (node_written from bytes) i) e where
          by_content : (c : NodeContent) → is_directory_content (content_shown c) ≡ false
              → bytes_of_file new (file_body c)
              ≡ written (bytes_of_file old (file_body c)) from bytes
              → joined_node new (with_content c n)
              ≡ node_written from bytes (joined_node old (with_content c n))
          by_content Directory none b = absurd cc
          by_content (File body) none b =
              ap (λ (bs : List ℕ). with_content (File (Joined bs)) n) b

  module _ (content : NodeContent) (size : ℕ)
      (still : is_directory_content (content_shown content) ≡ false)
      (t : TurnsInto old new (file_body n.content) (file_body content)
      (resized (bytes_of_file old (file_body n.content)) size)) where
    pub resized_kept : KeepsFiles new (changed (with_content content) i ns)
    resized_kept =
        turned_kept old new ns i n kept lt is content
        (resized (bytes_of_file old (file_body n.content)) size) t

    pub resized_joined : joined_nodes new (changed (with_content content) i ns)
        ≡ changed (node_resized size) i now
    resized_joined =
        turned_joined old new ns i n kept lt is content
        (resized (bytes_of_file old (file_body n.content)) size) t (node_resized size)
        (by_content n.content content file still t.bytes_are)
        ∙ ap (changed (node_resized size) i) e where
          by_content : (c d : NodeContent) → is_directory_content (content_shown c) ≡ false
              → is_directory_content (content_shown d) ≡ false
              → bytes_of_file new (file_body d) ≡ resized (bytes_of_file old (file_body c)) size
              → joined_node new (with_content d n)
              ≡ node_resized size (joined_node old (with_content c n))
          by_content Directory d none some b = absurd cc
          by_content (File body) Directory none some b = absurd cc
          by_content (File body) (File other) none some b =
              ap (λ (bs : List ℕ). with_content (File (Joined bs)) n) b

-- ---- nothing changes

module _ (old new : Chunks) (ns : List Node) (kept : KeepsFiles old ns)
    (r : Rekeys old new [] []) where
  all_stay : (ms : List Node) → AllByRecursion (λ (m : Node). HasChunks old
      (file_body m.content)) ms
      → AllByRecursion (Stays old new) ms
  all_stay ms h =
      all_of (λ (m : Node). HasChunks old (file_body m.content)) (Stays old new) ms
      (λ m held. stays old new [] [] r m held (λ k at none. none)) h

  pub same_kept : KeepsFiles new ns
  same_kept = record {
    held = all_of (Stays old new) (λ (m : Node). HasChunks new (file_body m.content)) ns
        (λ m s. s.held)
        (all_stay ns kept.held);
    apart = kept.apart;
    count = omega (arith, kept.count, r.count);
  }

  pub same_joined : joined_nodes new ns ≡ joined_nodes old ns
  same_joined = same ns (all_stay ns kept.held) where
    same : (ms : List Node) → AllByRecursion (Stays old new) ms → joined_nodes new ms
        ≡ joined_nodes old ms
    same [] h = refl
    same (x ∷ ms) h = rw (h.0.same, same ms h.1) refl

-- ---- what a call of resize leaves

module _ (old new : Chunks) (ns ms : List Node) (i size : ℕ) (now : List Node)
    (e : joined_nodes old ns ≡ now) (kept : KeepsFiles old ns) (lt : i < length now)
    (file : (m : Node) → m ≡ get_or now i m
    → is_directory_content (content_shown m.content) ≡ false) where
  pub resize_seen : ResizesAt old new ns ms i size
      → joined_nodes new ms ≡ changed (node_resized size) i now
  resize_seen r =
      let within = within_nodes old ns i now e lt in
      ap (joined_nodes new) r.nodes
      ∙ resized_joined old new ns i r.node now e kept within r.at
      (seen_file old ns i r.node now e within r.at file) r.content size r.file r.turned

  resized_keeps : ResizesAt old new ns ms i size → KeepsFiles new ms
  resized_keeps r =
      let within = within_nodes old ns i now e lt in
      subst (KeepsFiles new) (sym r.nodes)
      (resized_kept old new ns i r.node now e kept within r.at
      (seen_file old ns i r.node now e within r.at file) r.content size r.file r.turned)

  pub resize_kept : {A E : Type 0} (result : Result A E)
      → OnOk result (ResizesAt old new ns ms i size) → OnErr result (ms ≡ ns)
      → OnErr result (Rekeys old new [] []) → KeepsFiles new ms
  resize_kept (Ok a) done same r = resized_keeps done
  resize_kept (Err a) done same r =
      subst (KeepsFiles new) (sym same) (same_kept old new ns kept r)

pub same_seen : {A E : Type 0} (old new : Chunks) (ns ms now : List Node) → joined_nodes old ns
    ≡ now
    → KeepsFiles old ns → (result : Result A E) → OnErr result (ms ≡ ns)
    → OnErr result (Rekeys old new [] []) → OnErr result (joined_nodes new ms ≡ now)
same_seen old new ns ms now e kept (Ok a) same r = tt
same_seen old new ns ms now e kept (Err a) same r =
    ap (joined_nodes new) same ∙ same_joined old new ns kept r ∙ e

-- ---- a node goes, and its chunks

joined_without : (old new : Chunks) (ns : List Node) (i : ℕ) → AllBut (Stays old new) ns i
    → joined_nodes new (remove ns i) ≡ remove (joined_nodes old ns) i
joined_without old new [] zero h = refl
joined_without old new [] (suc i) h = refl
joined_without old new (m ∷ ns) zero h = same ns h where
  same : (ms : List Node) → AllByRecursion (Stays old new) ms → joined_nodes new ms
      ≡ joined_nodes old ms
  same [] h = refl
  same (x ∷ ms) h = rw (h.0.same, same ms h.1) refl
joined_without old new (m ∷ ns) (suc i) h =
    rw (h.0.same, joined_without old new ns i h.1) refl

module _ (old new : Chunks) (ns : List Node) (i : ℕ) (n : Node) (kept : KeepsFiles old ns)
    (lt : i < length ns) (is : n ≡ get_or ns i n) (r : Rekeys old new (node_keys n) []) where
  pub gone_kept : KeepsFiles new (remove ns i)
  gone_kept =
      let stay = others_stay old new ns i n kept lt is [] r in
      record {
        held = all_of (Stays old new) (λ (m : Node). HasChunks new (file_body m.content))
            (remove ns i)
            (λ m s. s.held) (all_without_one (Stays old new) ns i stay);
        apart = ordered_but HaveApartKeys ns i kept.apart;
        count = (let sum = sum_by-remove (λ (m : Node). length (node_keys m)) ns i n lt in
            omega (arith, sum, ap (λ (m : Node). length (node_keys m)) is, kept.count, r.count));
      }

  pub gone_joined : (now : List Node) → joined_nodes old ns ≡ now
      → joined_nodes new (remove ns i) ≡ remove now i
  gone_joined now e =
      joined_without old new ns i (others_stay old new ns i n kept lt is [] r)
      ∙ ap (λ (ms : List Node). remove ms i) e

-- ---- a node without bytes comes, and one hangs elsewhere

pub empty_held : (chunks : Chunks) → HasChunks chunks (InChunks [] 0)
empty_held chunks = record {
  are = no_keys chunks [] refl;
  shape = record { full = tt; count = refl; zeros = refl };
}

keys_added : (ns : List Node) (n : Node) → node_keys n ≡ [] → keys_in (ns ++ n ∷ []) ≡ keys_in ns
keys_added [] n e =
    omega (
      arith,
      sum_by-cons (λ (x : Node). length (node_keys x)) n [],
      ap (λ (ks : List ℕ). length ks) e,
    )
keys_added (m ∷ ns) n e =
    omega (
      arith,
      sum_by-cons (λ (x : Node). length (node_keys x)) m (ns ++ n ∷ []),
      sum_by-cons (λ (x : Node). length (node_keys x)) m ns,
      keys_added ns n e,
    )

added_kept : (chunks : Chunks) (ns : List Node) (n : Node) → file_body n.content ≡ InChunks [] 0
    → KeepsFiles chunks ns → KeepsFiles chunks (ns ++ n ∷ [])
added_kept chunks ns n e kept = record {
  held = all_added (λ (m : Node). HasChunks chunks (file_body m.content)) ns n kept.held
      (subst (HasChunks chunks) (sym e) (empty_held chunks));
  apart = ordered_added HaveApartKeys ns n kept.apart
      (all_of (λ (m : Node). HasChunks chunks (file_body m.content)) (λ
      (m : Node). HaveApartKeys m n) ns
      (λ m h k at own. subst (λ (f : FileBody). HasElement (keys_of f) k) e own) kept.held);
  count = kept.count ∙ sym (keys_added ns n (ap keys_of e));
}

module _ {A E : Type 0} (chunks : Chunks) (ns ms : List Node) where
  pub push_kept : (n : Node) → file_body n.content ≡ InChunks [] 0 → KeepsFiles chunks ns
      → (result : Result A E) → OnOk result (ms ≡ ns ++ n ∷ []) → OnErr result (ms ≡ ns)
      → KeepsFiles chunks ms
  push_kept n empty kept (Ok a) pushed same =
      subst (KeepsFiles chunks) (sym pushed) (added_kept chunks ns n empty kept)
  push_kept n empty kept (Err a) pushed same = subst (KeepsFiles chunks) (sym same) kept

  pub push_seen : (now : List Node) (n : Node) → joined_nodes chunks ns ≡ now
      → file_body n.content ≡ InChunks [] 0 → (result : Result A E)
      → OnOk result (ms ≡ ns ++ n ∷ [])
      → OnOk result (joined_nodes chunks ms ≡ now ++ new_node n ∷ [])
  push_seen now n e empty (Ok a) pushed =
      ap (joined_nodes chunks) pushed ∙ added_joined chunks ns n empty
      ∙ ap (λ (xs : List Node). xs ++ new_node n ∷ []) e
  push_seen now n e empty (Err a) pushed = tt

  pub push_same : (now : List Node) → joined_nodes chunks ns ≡ now → (result : Result A E)
      → OnErr result (ms ≡ ns) → OnErr result (joined_nodes chunks ms ≡ now)
  push_same now e (Ok a) same = tt
  push_same now e (Err a) same = ap (joined_nodes chunks) same ∙ e

module _ (hook : Hook) where
  all_hooked : (P : Node → Type 0) (ns : List Node) (i : ℕ)
      → ((n : Node) → P n → P (with_hook hook n)) → AllByRecursion P ns
      → AllByRecursion P (changed (with_hook hook) i ns)
  all_hooked P [] i f h = tt
  all_hooked P (n ∷ ns) zero f h = (f n h.0, h.1)
  all_hooked P (n ∷ ns) (suc i) f h = (h.0, all_hooked P ns i f h.1)

  apart_hooked : (ns : List Node) (i : ℕ) → AreOrdered HaveApartKeys ns
      → AreOrdered HaveApartKeys (changed (with_hook hook) i ns)
  apart_hooked [] i h = tt
  apart_hooked (n ∷ ns) zero h = (h.0, h.1)
  apart_hooked (n ∷ ns) (suc i) h =
      (all_hooked (HaveApartKeys n) ns i (λ m apart. apart) h.0, apart_hooked ns i h.1)

  keys_hooked : (ns : List Node) (i : ℕ) → keys_in (changed (with_hook hook) i ns) ≡ keys_in ns
  keys_hooked [] i = refl
  keys_hooked (n ∷ ns) zero =
      omega (
        arith,
        sum_by-cons (λ (x : Node). length (node_keys x)) (with_hook hook n) ns,
        sum_by-cons (λ (x : Node). length (node_keys x)) n ns,
      )
  keys_hooked (n ∷ ns) (suc i) =
      omega (
        arith,
        sum_by-cons (λ (x : Node). length (node_keys x)) n (changed (with_hook hook) i ns),
        sum_by-cons (λ (x : Node). length (node_keys x)) n ns,
        keys_hooked ns i,
      )

  pub hooked_kept : (chunks : Chunks) (ns : List Node) (i : ℕ) → KeepsFiles chunks ns
      → KeepsFiles chunks (changed (with_hook hook) i ns)
  hooked_kept chunks ns i kept = record {
    held = all_hooked (λ (m : Node). HasChunks chunks (file_body m.content)) ns i
        (λ m h. h) kept.held;
    apart = apart_hooked ns i kept.apart;
    count = kept.count ∙ sym (keys_hooked ns i);
  }

-- ---- how many chunks there are

pub chunks_joined : (chunks : Chunks) (ns : List Node)
    → AllByRecursion (λ (n : Node). HasChunks chunks (file_body n.content)) ns
    → chunks_in (joined_nodes chunks ns) ≡ keys_in ns
chunks_joined chunks [] h = refl
chunks_joined chunks (n ∷ ns) h =
    let keys = node_keys n in
    let size : length (file_bytes_of (joined_node chunks n)) ≡ len_of (file_body n.content) =
    ap length (bytes_joined chunks n) ∙ held_size chunks (file_body n.content) h.0 in
    let one : chunks_for (length (file_bytes_of (joined_node chunks n))) ≡ length keys =
    ap chunks_for size ∙ sym h.0.shape.count ∙ length-stored chunks keys h.0.are.present in
    omega (
      arith,
      sum_by-cons (λ (x : Node). chunks_for (length (file_bytes_of x))) (joined_node chunks n)
          (joined_nodes chunks ns),
      sum_by-cons (λ (x : Node). length (node_keys x)) n ns,
      one,
      chunks_joined chunks ns h.1,
    )
