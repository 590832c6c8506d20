-- Which nodes are there after a change of files, and which are removed ones.
use Rattle.std.proofs.Common.{◌≡◌, ◌≢◌, ◌⊎◌, inl, inr, ℕ, Bool, true, false, cond, eqb, List, []}
use Rattle.std.proofs.Common.{◌∷◌, ◌++◌, map, filter, Option, Some, None, refl, sym, ap, subst, ◌∙◌}
use Rattle.std.specs.Prelude.{not, if◌then◌else◌, find, option_map, is_some}
use Rattle.std.specs.Option.{option_and_then}
use Rattle.std.specs.List.{AllByRecursion}
use Rattle.std.proofs.lemmas.Bool.{eqb-true, eq-eqb, ne_eqb}
use Rattle.file_tree.specs.rules.Files.{Name, Path, Content, File, FileNode, Files}
use Rattle.file_tree.specs.rules.Files.{IsFiles, node_of, path_of, child, at, is_at, is_same_path}
use Rattle.file_tree.specs.rules.Files.{is_directory, holds_directory, changed_at, created}
use Rattle.file_tree.specs.rules.Files.{removed, forgotten, renamed, path_moved, with_file_bytes}
use Rattle.file_tree.proofs.SameNames.{same_or_not}
use Rattle.file_tree.proofs.Rebuilt.{found_number, path_there, own_nodes}
use Rattle.wasi_calls_rules.specs.WasiStates.{Node, IsThere, IsRemoved}
use Rattle.wasi_calls_rules.specs.Small.{has_path}

abbrev pub NodeAt : Files → ℕ → Type 0
NodeAt fs k = (n : FileNode) × (node_of fs k ≡ Some n)

pub node_there : (fs : Files) (k : ℕ) → IsThere fs (Node k) → NodeAt fs k
node_there fs k h = by_node (node_of fs k) refl where
  by_node : (o : Option FileNode) → node_of fs k ≡ o → NodeAt fs k
  by_node None e = absurd (rw e at h)
  by_node (Some n) e = (n, e)

pub there_node : (fs : Files) (k : ℕ) → NodeAt fs k → IsThere fs (Node k)
there_node fs k n = rw n.1 tt

pub directory_there : (fs : Files) (k : ℕ) → is_directory fs k ≡ true → NodeAt fs k
directory_there fs k e = by_node (node_of fs k) refl where
  by_node : (o : Option FileNode) → node_of fs k ≡ o → NodeAt fs k
  by_node None is = absurd (let t : false ≡ true = sym (ap holds_directory is) ∙ e in cc)
  by_node (Some n) is = (n, is)

pub path_node : (fs : Files) (k : ℕ) (p : Path) → path_of fs k ≡ Some p → NodeAt fs k
path_node fs k p e = (let r = path_there (node_of fs k) p e in (r.0, r.1))

-- ---- paths

pub no_path_has : (fs : Files) (k : ℕ) → path_of fs k ≡ None → has_path fs k ≡ false
no_path_has fs k e = rw e refl

pub has_no_path : (fs : Files) (k : ℕ) → has_path fs k ≡ false → is_some (path_of fs k) ≡ false
has_no_path fs k e = by_path (path_of fs k) refl where
  by_path : (o : Option Path) → path_of fs k ≡ o → is_some (path_of fs k) ≡ false
  by_path None is = ap is_some is
  by_path (Some p) is = absurd (let t : true ≡ false = (rw is at e) in cc)

pub removed_path : (fs : Files) (k : ℕ) → IsRemoved fs k → path_of fs k ≡ None
removed_path fs k h = ap (option_and_then (λ (n : FileNode). n.path)) h.1 ∙ h.2

-- the node under a name has the directory's path and that name
find_at : (ns : List FileNode) (p : Path) (n : FileNode)
    → find (λ (n : FileNode). is_at p n.path) ns ≡ Some n
    → (P : FileNode → Type 0) → AllByRecursion P ns → P n × (n.path ≡ Some p)
find_at [] p n e P all = absurd (cc)
find_at (x ∷ ns) p n e P all = by_test (is_at p x.path) refl e (find_at ns p n) where
  here : (o : Option Path) → is_at p o ≡ true → o ≡ Some p
  here None e = absurd (cc)
  here (Some q) e = same (same_or_not p q) where
    same : ((is_same_path p q ≡ true) × (p ≡ q)) ⊎ ((is_same_path p q ≡ false) × (p ≢ q))
        → Some q ≡ Some p
    same (inl is) = ap (λ (x : Path). Some x) (sym is.1)
    same (inr apart) = absurd (let t : true ≡ false = sym e ∙ apart.0 in cc)

  by_test : (b : Bool) → is_at p x.path ≡ b
      → cond b (Some x) (find (λ (n : FileNode). is_at p n.path) ns) ≡ Some n
      → (find (λ (n : FileNode). is_at p n.path) ns ≡ Some n → (P : FileNode → Type 0)
      → AllByRecursion P ns → P n × (n.path ≡ Some p))
      → P n × (n.path ≡ Some p)
  by_test true is e later =
      (let same : x ≡ n = cc in
      (subst P same all.0, ap (λ (y : FileNode). y.path) (sym same) ∙ here x.path is))
  by_test false is e later = later e P all.1

-- a child's number and path
pub child_path : (fs : Files) (d k : ℕ) (name : Name) (p : Path) → IsFiles fs
    → path_of fs d ≡ Some p → child fs d name ≡ Some k → path_of fs k ≡ Some (p ++ name ∷ [])
child_path fs d k name p are path e =
    by_node (at fs (p ++ name ∷ [])) refl
    (sym (ap (option_and_then (λ (q : Path).
    option_map (λ (n : FileNode). n.number) (at fs (q ++ name ∷ [])))) path) ∙ e)
  where
    by_node : (o : Option FileNode) → at fs (p ++ name ∷ []) ≡ o
        → option_map (λ (n : FileNode). n.number) o ≡ Some k
        → path_of fs k ≡ Some (p ++ name ∷ [])
    by_node None is e = absurd (cc)
    by_node (Some n) is e =
        let number : n.number ≡ k = cc in
        let r = find_at fs.nodes (p ++ name ∷ []) n is
        (λ (n : FileNode). node_of fs n.number ≡ Some n)
        (own_nodes 1 fs.nodes fs.next are.rising) in
        ap (path_of fs) (sym number) ∙ ap (option_and_then (λ (n : FileNode). n.path)) r.0 ∙ r.1

-- a child's directory has a path
pub child_parent : (fs : Files) (d k : ℕ) (name : Name) → child fs d name ≡ Some k
    → (p : Path) × (path_of fs d ≡ Some p)
child_parent fs d k name e = by_path (path_of fs d) refl e where
  by_path : (o : Option Path) → path_of fs d ≡ o
      → option_and_then (λ (q : Path).
      option_map (λ (n : FileNode). n.number) (at fs (q ++ name ∷ []))) o ≡ Some k
      → (p : Path) × (path_of fs d ≡ Some p)
  by_path None is e = absurd (cc)
  by_path (Some p) is e = (p, is)

-- ---- each node changed, with its number kept

module _ (f : FileNode → FileNode) (keeps : (n : FileNode) → (f n).number ≡ n.number) where
  pub find_mapped : (ns : List FileNode) (k : ℕ)
      → find (λ (n : FileNode). eqb n.number k) (map f ns)
      ≡ option_map f (find (λ (n : FileNode). eqb n.number k) ns)
  find_mapped [] k = refl
  find_mapped (x ∷ ns) k =
      ap (λ (i : ℕ). cond (eqb i k) (Some (f x))
      (find (λ (n : FileNode). eqb n.number k) (map f ns)))
      (keeps x)
      ∙ by_test (eqb x.number k) (find_mapped ns k)
    where
      by_test : (b : Bool)
          → find (λ (n : FileNode). eqb n.number k) (map f ns)
          ≡ option_map f (find (λ (n : FileNode). eqb n.number k) ns)
          → cond b (Some (f x)) (find (λ (n : FileNode). eqb n.number k) (map f ns))
          ≡ option_map f (cond b (Some x) (find (λ (n : FileNode). eqb n.number k) ns))
      by_test true later = refl
      by_test false later = later

pub mapped_node : (fs after : Files) (f : FileNode → FileNode) (k : ℕ)
    → ((n : FileNode) → (f n).number ≡ n.number) → after.nodes ≡ map f fs.nodes
    → node_of after k ≡ option_map f (node_of fs k)
mapped_node fs after f k keeps e =
    ap (λ (ns : List FileNode). find (λ (n : FileNode). eqb n.number k) ns) e
    ∙ find_mapped f keeps fs.nodes k

pub mapped_there : (fs after : Files) (f : FileNode → FileNode)
    → ((n : FileNode) → (f n).number ≡ n.number) → after.nodes ≡ map f fs.nodes
    → (k : ℕ) → IsThere fs (Node k) → IsThere after (Node k)
mapped_there fs after f keeps e k h =
    let n = node_there fs k h in
    there_node after k (f n.0, mapped_node fs after f k keeps e ∙ ap (option_map f) n.1)

-- a node that lost no path was removed before
pub mapped_removed : (fs after : Files) (f : FileNode → FileNode)
    → ((n : FileNode) → (f n).number ≡ n.number) → after.nodes ≡ map f fs.nodes
    → (k : ℕ) → ((n : FileNode) → n.number ≡ k → (f n).path ≡ None → n.path ≡ None)
    → IsRemoved after k → IsRemoved fs k
mapped_removed fs after f keeps e k kept h =
    by_node (node_of fs k) refl (sym (mapped_node fs after f k keeps e) ∙ h.1)
  where
    by_node : (o : Option FileNode) → node_of fs k ≡ o → option_map f o ≡ Some h.0 → IsRemoved fs k
    by_node None is e = absurd (cc)
    by_node (Some n) is e =
        let same : f n ≡ h.0 = cc in
        (n, is, kept n (found_number fs.nodes k n is) (ap (λ (x : FileNode). x.path) same ∙ h.2))

-- ---- one node changed

module _ (k : ℕ) (change : FileNode → FileNode)
    (keeps : (n : FileNode) → (change n).number ≡ n.number) where
  pub changed_number : (n : FileNode) → (changed_at k change n).number ≡ n.number
  changed_number n = by_test (eqb n.number k) where
    by_test : (b : Bool) → (if b then change n else n).number ≡ n.number
    by_test true = keeps n
    by_test false = refl

  pub changed_other : (n : FileNode) → n.number ≢ k → changed_at k change n ≡ n
  changed_other n ne = ap (λ (b : Bool). if b then change n else n) (ne_eqb n.number k ne)

  pub changed_own : (n : FileNode) → n.number ≡ k → changed_at k change n ≡ change n
  changed_own n e = ap (λ (b : Bool). if b then change n else n) (eq-eqb n.number k e)

pub removed_there : (fs : Files) (k : ℕ) (j : ℕ) → IsThere fs (Node j)
    → IsThere (removed k fs) (Node j)
removed_there fs k =
    mapped_there fs (removed k fs) (changed_at k (λ (n : FileNode). record n { path = None }))
    (changed_number k (λ (n : FileNode). record n { path = None }) (λ n. refl)) refl

pub removed_before : (fs : Files) (k j : ℕ) → j ≢ k → IsRemoved (removed k fs) j → IsRemoved fs j
removed_before fs k j ne =
    let lose : FileNode → FileNode = λ (n : FileNode). record n { path = None } in
    mapped_removed fs (removed k fs) (changed_at k lose) (changed_number k lose (λ n. refl)) refl j
    (λ n e none. sym (ap (λ (x : FileNode). x.path)
    (changed_other k lose (λ n. refl) n (λ same. ne (sym e ∙ same)))) ∙ none)

-- the node that has lost its path
pub removed_own : (fs : Files) (k : ℕ) (n : FileNode) → node_of fs k ≡ Some n
    → (x : FileNode) × (node_of (removed k fs) k ≡ Some x) × (x.path ≡ None)
removed_own fs k n e =
    let lose : FileNode → FileNode = λ (n : FileNode). record n { path = None } in
    let same = changed_own k lose (λ n. refl) n (found_number fs.nodes k n e) in (
      changed_at k lose n,
      mapped_node fs (removed k fs) (changed_at k lose) k (changed_number k lose (λ n. refl)) refl
          ∙ ap (option_map (changed_at k lose)) e,
      ap (λ (x : FileNode). x.path) same,
    )

pub removed_other : (fs : Files) (k j : ℕ) → j ≢ k → node_of (removed k fs) j ≡ node_of fs j
removed_other fs k j ne =
    let lose : FileNode → FileNode = λ (n : FileNode). record n { path = None } in
    mapped_node fs (removed k fs) (changed_at k lose) j (changed_number k lose (λ n. refl)) refl
    ∙ by_node lose (node_of fs j) refl
  where
    by_node : (lose : FileNode → FileNode) (o : Option FileNode) → node_of fs j ≡ o
        → option_map (changed_at k lose) o ≡ o
    by_node lose None is = refl
    by_node lose (Some n) is =
        let other : n.number ≢ k = λ same. ne (sym (found_number fs.nodes j n is) ∙ same) in
        ap (λ (x : FileNode). Some x)
        (ap (λ (b : Bool). if b then lose n else n) (ne_eqb n.number k other))

pub rewritten_there : (fs : Files) (k : ℕ) (bytes : List ℕ) (j : ℕ) → IsThere fs (Node j)
    → IsThere (with_file_bytes k bytes fs) (Node j)
rewritten_there fs k bytes =
    let write : FileNode → FileNode = λ (n : FileNode). record n { content = File bytes } in
    mapped_there fs (with_file_bytes k bytes fs) (changed_at k write)
    (changed_number k write (λ n. refl)) refl

pub rewritten_removed : (fs : Files) (k : ℕ) (bytes : List ℕ) (j : ℕ)
    → IsRemoved (with_file_bytes k bytes fs) j → IsRemoved fs j
rewritten_removed fs k bytes j =
    let write : FileNode → FileNode = λ (n : FileNode). record n { content = File bytes } in
    mapped_removed fs (with_file_bytes k bytes fs) (changed_at k write)
    (changed_number k write (λ n. refl)) refl j
    (λ n e none. sym (same_path write n (eqb n.number k) (λ m. refl)) ∙ none)
  where
    same_path : (write : FileNode → FileNode) (n : FileNode) (b : Bool)
        → ((m : FileNode) → (write m).path ≡ m.path) → (if b then write n else n).path ≡ n.path
    same_path write n true f = f n
    same_path write n false f = refl

pub renamed_there : (fs : Files) (from to : Path) (j : ℕ) → IsThere fs (Node j)
    → IsThere (renamed from to fs) (Node j)
renamed_there fs from to =
    mapped_there fs (renamed from to fs)
    (λ (n : FileNode). record n { path = option_map (path_moved from to) n.path }) (λ n. refl) refl

pub renamed_removed : (fs : Files) (from to : Path) (j : ℕ) → IsRemoved (renamed from to fs) j
    → IsRemoved fs j
renamed_removed fs from to j =
    mapped_removed fs (renamed from to fs)
    (λ (n : FileNode). record n { path = option_map (path_moved from to) n.path }) (λ n. refl) refl
    j
    (λ n e none. unmoved n.path none)
  where
    unmoved : (o : Option Path) → option_map (path_moved from to) o ≡ None → o ≡ None
    unmoved None e = refl
    unmoved (Some p) e = absurd (cc)

-- ---- one node more

module _ (new : FileNode) where
  find_pushed : (ns : List FileNode) (k : ℕ) (n : FileNode)
      → find (λ (n : FileNode). eqb n.number k) ns ≡ Some n
      → find (λ (n : FileNode). eqb n.number k) (ns ++ new ∷ []) ≡ Some n
  find_pushed [] k n e = absurd (cc)
  find_pushed (x ∷ ns) k n e = by_test (eqb x.number k) e (find_pushed ns k n) where
    by_test : (b : Bool) → cond b (Some x) (find (λ (n : FileNode). eqb n.number k) ns) ≡ Some n
        → (find (λ (n : FileNode). eqb n.number k) ns ≡ Some n
        → find (λ (n : FileNode). eqb n.number k) (ns ++ new ∷ []) ≡ Some n)
        → cond b (Some x) (find (λ (n : FileNode). eqb n.number k) (ns ++ new ∷ [])) ≡ Some n
    by_test true e later = e
    by_test false e later = later e

  -- what is found is the new one, or was there
  pushed_found : (ns : List FileNode) (k : ℕ) (n : FileNode)
      → find (λ (n : FileNode). eqb n.number k) (ns ++ new ∷ []) ≡ Some n
      → (n ≡ new) ⊎ (find (λ (n : FileNode). eqb n.number k) ns ≡ Some n)
  pushed_found [] k n e = by_test (eqb new.number k) e where
    by_test : (b : Bool) → cond b (Some new) None ≡ Some n
        → (n ≡ new) ⊎ (find (λ (n : FileNode). eqb n.number k) [] ≡ Some n)
    by_test true e = inl (cc)
    by_test false e = absurd (cc)
  pushed_found (x ∷ ns) k n e = by_test (eqb x.number k) e (pushed_found ns k n) where
    by_test : (b : Bool)
        → cond b (Some x) (find (λ (n : FileNode). eqb n.number k) (ns ++ new ∷ [])) ≡ Some n
        → (find (λ (n : FileNode). eqb n.number k) (ns ++ new ∷ []) ≡ Some n
        → (n ≡ new) ⊎ (find (λ (n : FileNode). eqb n.number k) ns ≡ Some n))
        → (n ≡ new) ⊎ (cond b (Some x) (find (λ (n : FileNode). eqb n.number k) ns) ≡ Some n)
    by_test true e later = inr e
    by_test false e later = later e

  -- the new one is found, or another under its number
  pushed_own : (ns : List FileNode)
      → (n : FileNode)
      × (find (λ (n : FileNode). eqb n.number new.number) (ns ++ new ∷ []) ≡ Some n)
  pushed_own [] =
      (new, ap (λ (b : Bool). cond b (Some new) None) (eq-eqb new.number new.number refl))
  pushed_own (x ∷ ns) = by_test (eqb x.number new.number) (pushed_own ns) where
    by_test : (b : Bool)
        → (n : FileNode)
        × (find (λ (n : FileNode). eqb n.number new.number) (ns ++ new ∷ []) ≡ Some n)
        → (n : FileNode) × (cond b (Some x)
        (find (λ (n : FileNode). eqb n.number new.number) (ns ++ new ∷ [])) ≡ Some n)
    by_test true later = (x, refl)
    by_test false later = later

pub created_there : (fs : Files) (p : Path) (c : Content) (j : ℕ) → IsThere fs (Node j)
    → IsThere (created p c fs) (Node j)
created_there fs p c j h =
    let n = node_there fs j h in
    there_node (created p c fs) j (n.0, find_pushed _ fs.nodes j n.0 n.1)

pub created_own : (fs : Files) (p : Path) (c : Content) → IsThere (created p c fs) (Node fs.next)
created_own fs p c =
    there_node (created p c fs) fs.next
    (pushed_own (record { number = fs.next; path = Some p; content = c }) fs.nodes)

pub created_removed : (fs : Files) (p : Path) (c : Content) (j : ℕ) → IsRemoved (created p c fs) j
    → IsRemoved fs j
created_removed fs p c j h =
    by_case
    (pushed_found (record { number = fs.next; path = Some p; content = c }) fs.nodes j h.0 h.1)
  where
    by_case : (h.0 ≡ record { number = fs.next; path = Some p; content = c })
        ⊎ (node_of fs j ≡ Some h.0) → IsRemoved fs j
    by_case (inl new) =
        absurd (let t : Some p ≡ None = sym (ap (λ (x : FileNode). x.path) new) ∙ h.2 in cc)
    by_case (inr old) = (h.0, old, h.2)

-- ---- one node less

-- all nodes but those with this number
abbrev others : ℕ → List FileNode → List FileNode
others k ns = filter (λ (n : FileNode). not (eqb n.number k)) ns

filtered_other : (ns : List FileNode) (k j : ℕ) → j ≢ k
    → find (λ (n : FileNode). eqb n.number j) (others k ns)
    ≡ find (λ (n : FileNode). eqb n.number j) ns
filtered_other [] k j ne = refl
filtered_other (x ∷ ns) k j ne =
    by_tests (eqb x.number k) (eqb x.number j) refl refl (filtered_other ns k j ne)
  where
    by_tests : (s t : Bool) → eqb x.number k ≡ s → eqb x.number j ≡ t
        → find (λ (n : FileNode). eqb n.number j) (others k ns)
        ≡ find (λ (n : FileNode). eqb n.number j) ns
        → find (λ (n : FileNode). eqb n.number j)
        (cond (not s) (x ∷ filter (λ (n : FileNode). not (eqb n.number k)) ns)
        (others k ns))
        ≡ cond t (Some x) (find (λ (n : FileNode). eqb n.number j) ns)
    by_tests true true is also later =
        absurd (ne (sym (eqb-true x.number j also) ∙ eqb-true x.number k is))
    by_tests true false is also later = later
    by_tests false t is also later =
        ap (λ (b : Bool). cond b (Some x) (find (λ (n : FileNode). eqb n.number j) (others k ns)))
        also
        ∙ ap (λ (o : Option FileNode). cond t (Some x) o) later

pub forgotten_other : (fs : Files) (k j : ℕ) → j ≢ k → node_of (forgotten k fs) j ≡ node_of fs j
forgotten_other fs k j ne = filtered_other fs.nodes k j ne

pub forgotten_there : (fs : Files) (k j : ℕ) → j ≢ k → IsThere fs (Node j)
    → IsThere (forgotten k fs) (Node j)
forgotten_there fs k j ne h =
    let n = node_there fs j h in
    there_node (forgotten k fs) j (n.0, forgotten_other fs k j ne ∙ n.1)

filtered_own : (ns : List FileNode) (k : ℕ)
    → find (λ (n : FileNode). eqb n.number k) (others k ns)
    ≡ None
filtered_own [] k = refl
filtered_own (x ∷ ns) k = by_test (eqb x.number k) refl (filtered_own ns k) where
  by_test : (b : Bool) → eqb x.number k ≡ b
      → find (λ (n : FileNode). eqb n.number k) (others k ns) ≡ None
      → find (λ (n : FileNode). eqb n.number k)
      (cond (not b) (x ∷ filter (λ (n : FileNode). not (eqb n.number k)) ns)
      (others k ns)) ≡ None
  by_test true is later = later
  by_test false is later =
      ap (λ (b : Bool). cond b (Some x) (find (λ (n : FileNode). eqb n.number k) (others k ns))) is
      ∙ later

pub forgotten_own : (fs : Files) (k : ℕ) → node_of (forgotten k fs) k ≡ None
forgotten_own fs k = filtered_own fs.nodes k

pub forgotten_removed : (fs : Files) (k j : ℕ) → IsRemoved (forgotten k fs) j
    → (j ≢ k) × IsRemoved fs j
forgotten_removed fs k j h = (other, (h.0, sym (forgotten_other fs k j other) ∙ h.1, h.2)) where
  other : j ≢ k
  other same =
      absurd (let t : None ≡ Some h.0 =
      sym (forgotten_own fs k) ∙ ap (node_of (forgotten k fs)) (sym same) ∙ h.1 in cc)
