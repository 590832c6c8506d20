-- A new node in a tree.
use Rattle.std.proofs.Common.{◌≡◌, ◌≢◌, ℕ, ◌+◌, ◌<◌, ◌≤◌, ◌⊎◌, inl, inr, Bool, true, false, cond}
use Rattle.std.proofs.Common.{eqb, List, [], ◌∷◌, ◌++◌, length, map, reverse, Option, Some, None}
use Rattle.std.proofs.Common.{refl, sym, ap, subst, ◌∙◌, arith}
use Rattle.std.specs.Prelude.{option_map, find, unwrap_or, is_some}
use Rattle.std.specs.Option.{option_and_then}
use Rattle.std.specs.List.{AllByRecursion}
use Rattle.std.proofs.lemmas.List.{map_push, length_push, length-map}
use Rattle.std.proofs.lemmas.List.Sums.{sum_by_push}
use Rattle.std.proofs.lemmas.Bool.{cases_eq, eqb-true}
use mathlib.Core.List.{reverse-cons}
use Rattle.file_tree.specs.declared.store.node.Hook.{Hook}
use Rattle.file_tree.specs.declared.store.node.Hook.TheVariants.{Root, Removed, In}
use Rattle.file_tree.specs.declared.store.node.Node.{Node}
use Rattle.file_tree.specs.rules.Files.{Name, Path, FileNode, Files, Content, IsNodeName}
use Rattle.file_tree.specs.rules.Files.{IsSmallContent, bytes_of_content, created, path_of, at}
use Rattle.file_tree.specs.rules.Files.{is_at}
use Rattle.file_tree.specs.declared.node_type.NodeType.{NodeType}
use Rattle.file_tree.specs.declared.node_type.NodeType.TheVariants as node_types
use Rattle.file_tree.specs.declared.limits.TheConstants.{NODES}
use Rattle.file_tree.specs.rules.Changes.{IsFree, path_at, empty}
use Rattle.file_tree.specs.Links.{Up, climb, IsTree, node_in, hook_held, hook_of, content_held}
use Rattle.file_tree.specs.Links.{content_shown, holds_directory_node, is_directory_in}
use Rattle.file_tree.specs.Links.{file_bytes_of, used_in, AreNodes, IsNowhere, shown_node, files}
use Rattle.file_tree.proofs.SameNames.{same_or_not}
use Rattle.file_tree.proofs.Climbs.{path_is, no_path, climb_sound}
use Rattle.file_tree.proofs.Lookups.{path_shown, directory_shown, node_nowhere}
use Rattle.file_tree.proofs.Lists.{numbers_below, nowhere_below, in_pushed_there, in_pushed_other}
use Rattle.file_tree.proofs.Lists.{in_pushed_same, all_pushed, rising_pushed}

pub removed_or_not : (h : Hook) → (h ≡ Removed) ⊎ (h ≢ Removed)
removed_or_not Root = inr (λ e. absurd cc)
removed_or_not Removed = inl refl
removed_or_not (In d n) = inr (λ e. absurd cc)

-- a tree before and after a node is put under a number that hung nowhere
pub record Grows (hook after : ℕ → Hook) (next most new d : ℕ) (name : Name) (up : Path)
    : Type 0 where
  pub tree : IsTree hook next
  pub more : next ≤ most
  pub low : new < most
  pub vacant : hook new ≡ Removed
  pub put : after new ≡ In d name
  pub others : (q : ℕ) → q ≢ new → after q ≡ hook q
  pub under : Up hook d up
  pub free : (k : ℕ) → hook k ≡ In d name → ⊥

kept : (hook after : ℕ → Hook) (next most new d : ℕ) (name : Name) (up : Path)
    → Grows hook after next most new d name up → (k : ℕ) (a : Path) → Up hook k a → Up after k a
kept hook after next most new d name up g k [] h =
    g.others k (λ e. absurd (let t : Root ≡ Removed = sym h ∙ ap hook e ∙ g.vacant in cc)) ∙ h
kept hook after next most new d name up g k (n ∷ a) h = (
  h.0,
  g.others k (λ e. absurd (let t : In h.0 n ≡ Removed = sym h.1 ∙ ap hook e ∙ g.vacant in
      cc)) ∙ h.1,
  kept hook after next most new d name up g h.0 a h.2,
)

pub grown_tree : (hook after : ℕ → Hook) (next most new d : ℕ) (name : Name) (up : Path)
    → Grows hook after next most new d name up → IsTree after most
grown_tree hook after next most new d name up g = record {
  root = (let ne : 1 ≢ new = λ e. absurd (let t : Root ≡ Removed = sym g.tree.root ∙ ap hook e
      ∙ g.vacant in cc) in g.others 1 ne ∙ g.tree.root);
  one_root = λ k e. elim (cases_eq k new) [
    | inl same ↦ absurd (let t : Root ≡ In d name = sym e ∙ ap after same ∙ g.put in cc)
    | inr ne ↦ g.tree.one_root k (sym (g.others k ne) ∙ e)
  ];
  below = λ k h. elim (cases_eq k new) [
    | inl same ↦ omega (arith, same, g.low)
    | inr ne ↦ omega (arith, g.more, g.tree.below k (λ e. h (g.others k ne ∙ e)))
  ];
  reached = λ k h. elim (cases_eq k new) [
    | inl same ↦ rw same (
      name ∷ up,
      (d, g.put, kept hook after next most new d name up g d up g.under),
    )
    | inr ne ↦ (let r = g.tree.reached k (λ e. h (g.others k ne ∙ e)) in
        (r.0, kept hook after next most new d name up g k r.0 r.1))
  ];
  one_each = λ j k e m hj hk. elim (cases_eq j new) [
    | inl j_same ↦ elim (cases_eq k new) [
      | inl k_same ↦ j_same ∙ sym k_same
      | inr k_ne ↦ absurd (clash e m (sym g.put ∙ ap after (sym j_same)
          ∙ hj) k (sym (g.others k k_ne) ∙ hk))
    ]
    | inr j_ne ↦ elim (cases_eq k new) [
      | inl k_same ↦ absurd (clash e m (sym g.put ∙ ap after (sym k_same)
          ∙ hk) j (sym (g.others j j_ne) ∙ hj))
      | inr k_ne ↦ g.tree.one_each j k e m (sym (g.others j j_ne) ∙ hj) (sym (g.others k k_ne) ∙ hk)
    ]
  ];
} where
  clash : (e : ℕ) (m : Name) → In d name ≡ In e m → (j : ℕ) → hook j ≡ In e m → ⊥
  clash e m same j h = g.free j (h ∙ sym same)

-- each other node keeps its path
pub same_climb : (hook after : ℕ → Hook) (next most new d : ℕ) (name : Name) (up : Path)
    → Grows hook after next most new d name up → (k : ℕ) → k ≢ new
    → climb most after k ≡ climb next hook k
same_climb hook after next most new d name up g k ne =
    elim (removed_or_not (hook k)) [
      | inl gone ↦ no_path most after k (g.others k ne ∙ gone) ∙ sym (no_path next hook k gone)
      | inr here ↦
          let r = g.tree.reached k here in
          path_is after most (grown_tree hook after next most new d name up g) k r.0
          (kept hook after next most new d name up g k r.0 r.1)
          ∙ sym (path_is hook next g.tree k r.0 r.1)
    ]

pub new_climb : (hook after : ℕ → Hook) (next most new d : ℕ) (name : Name) (up : Path)
    → Grows hook after next most new d name up → climb most after new ≡ Some (name ∷ up)
new_climb hook after next most new d name up g =
    path_is after most (grown_tree hook after next most new d name up g) new (name ∷ up) (
      d,
      g.put,
      kept hook after next most new d name up g d up g.under,
    )

map_same : {X Y : Type 0} (f g : Y → X) (P : Y → Type 0) (ys : List Y) → ((y : Y) → P y → f y ≡ g y)
    → AllByRecursion P ys → map f ys ≡ map g ys
map_same {X} f g P [] same h = refl
map_same {X} f g P (y ∷ ys) same h = ap (λ (x : X). x ∷ map f ys) (same y h.0)
    ∙ ap (λ (xs : List X). g y ∷ xs) (map_same f g P ys same h.1)

-- ---- the same of a list of nodes

pub some_path : (o : Option Path) → is_some o ≡ true → o ≡ Some (unwrap_or o [])
some_path (Some p) h = refl
some_path None h = absurd cc

pub mapped : (o : Option Path) (p : Path) → option_map reverse o ≡ Some p
    → (up : Path) × (o ≡ Some up) × (reverse up ≡ p)
mapped None p e = absurd cc
mapped (Some up) p e = (up, refl, cc)

-- the way up from a node that shows a path
pub way_up : (ns : List Node) (next k : ℕ) (p : Path) → path_of (files ns next) k ≡ Some p
    → (up : Path) × (reverse up ≡ p) × Up (hook_of ns) k up
way_up ns next k p e =
    let found = mapped (climb next (hook_of ns) k) p (sym (path_shown ns next k) ∙ e) in
    (found.0, found.2, climb_sound next (hook_of ns) k found.0 found.1)

is_at_itself : (q : Path) → is_at q (Some q) ≡ false → ⊥
is_at_itself q e = elim (same_or_not q q) [
  | inl same ↦ absurd (let t : true ≡ false = sym same.0 ∙ e in cc)
  | inr apart ↦ apart.1 refl
]

-- where nothing is found at a path, no node that hangs anywhere shows it
none_at : (next : ℕ) (hook : ℕ → Hook) (q : Path) (ns : List Node) (k : ℕ) → hook_of ns k ≢ Removed
    → find (λ (n : FileNode). is_at q n.path) (map (shown_node next hook) ns) ≡ None
    → is_at q (option_map reverse (climb next hook k)) ≡ false
none_at next hook q [] k some e = absurd (some refl)
none_at next hook q (n ∷ ns) k some e =
    by_tests (eqb n.number k) (is_at q (option_map reverse (climb next hook n.number))) refl refl
    (none_at next hook q ns k) some e where
      by_tests : (b t : Bool) → eqb n.number k ≡ b
          → is_at q (option_map reverse (climb next hook n.number)) ≡ t
          → (hook_of ns k ≢ Removed
          → find (λ (n : FileNode). is_at q n.path) (map (shown_node next hook) ns) ≡ None
          → is_at q (option_map reverse (climb next hook k)) ≡ false)
          → hook_held (cond b (Some n) (node_in ns k)) ≢ Removed
          → cond t (Some (shown_node next hook n)) (find (λ (n : FileNode). is_at q n.path)
          (map (shown_node next hook) ns)) ≡ None
          → is_at q (option_map reverse (climb next hook k)) ≡ false
      by_tests b true is found later some e = absurd cc
      by_tests true false is found later some e =
          ap (λ (j : ℕ). is_at q (option_map reverse (climb next hook j)))
          (sym (eqb-true n.number k is)) ∙ found
      by_tests false false is found later some e = later some e

no_number : (o : Option FileNode) → option_map (λ (n : FileNode). n.number) o ≡ None → o ≡ None
no_number None e = refl
no_number (Some n) e = absurd cc

-- what a free name is among nodes
pub record IsFreeIn (ns : List Node) (next d : ℕ) (name : Name) (p up : Path) : Type 0 where
  pub path : path_of (files ns next) d ≡ Some p
  pub up_is : reverse up ≡ p
  pub under : Up (hook_of ns) d up
  pub free : (k : ℕ) → hook_of ns k ≡ In d name → ⊥
  pub directory : is_directory_in ns d ≡ true

pub free_in : (ns : List Node) (next d : ℕ) (name : Name) → AreNodes ns next
    → IsFree (files ns next) d name
    → (up : Path) × IsFreeIn ns next d name (path_at (files ns next) d) up
free_in ns next d name are f =
    let fs = files ns next in
    let p = path_at fs d in
    let path : path_of fs d ≡ Some p = some_path (path_of fs d) f.path in
    let way = way_up ns next d p path in
    let nothing : at fs (p ++ name ∷ []) ≡ None =
    no_number (at fs (p ++ name ∷ []))
    (sym (ap (option_and_then (λ (q : Path). option_map (λ (n : FileNode). n.number) (at fs (q
    ++ name ∷ [])))) path) ∙ f.free) in (
      way.0,
      record {
        path = path;
        up_is = way.1;
        under = way.2;
        free = λ k e. no_clash way.0 p way.1 way.2 nothing k e;
        directory = sym (directory_shown ns next d) ∙ f.is_directory;
      },
    ) where
      no_clash : (up p : Path) → reverse up ≡ p → Up (hook_of ns) d up
          → at (files ns next) (p ++ name ∷ []) ≡ None → (k : ℕ) → hook_of ns k ≡ In d name → ⊥
      no_clash up p p_is under nothing k e =
          let here : hook_of ns k ≢ Removed = λ gone. absurd (let t : In d name ≡ Removed = sym e
          ∙ gone in cc) in
          let path : climb next (hook_of ns) k ≡ Some (name ∷ up) =
          path_is (hook_of ns) next are.tree k (name ∷ up) (d, e, under) in
          let whole : reverse (name ∷ up) ≡ p ++ name ∷ [] = reverse-cons name up
          ∙ ap (λ (q : Path). q ++ name ∷ []) p_is in
          let there : option_map reverse (climb next (hook_of ns) k) ≡ Some (p ++ name ∷ []) =
          ap (option_map reverse) path ∙ ap (λ (q : Path). Some q) whole in
          let none = none_at next (hook_of ns) (p ++ name ∷ []) ns k here nothing in
          is_at_itself (p ++ name ∷ []) (sym (ap (is_at (p ++ name ∷ [])) there) ∙ none)

-- a node is made in a directory, at a path that is free
pub record Makes (ns : List Node) (next d : ℕ) (name : Name) (p up : Path) (c : Content)
    (n : Node) : Type 0 where
  pub nodes : AreNodes ns next
  pub free : IsFreeIn ns next d name p up
  pub named : IsNodeName name
  pub number : n.number ≡ next
  pub hook : n.hook ≡ In d name
  pub content : content_shown n.content ≡ c

module _ (ns : List Node) (next d : ℕ) (name : Name) (p up : Path) (c : Content) (n : Node)
    (m : Makes ns next d name p up c n) where
  vacant : node_in ns next ≡ None
  vacant = node_nowhere ns next (nowhere_below next ns (numbers_below 1 ns next m.nodes.rising).1)

  pushed_new : node_in (ns ++ n ∷ []) next ≡ Some n
  pushed_new =
      subst (λ (k : ℕ). node_in (ns ++ n ∷ []) k
      ≡ Some n) m.number (in_pushed_same ns n (subst (λ (k : ℕ). IsNowhere ns k) (sym m.number)
      (nowhere_below next ns (numbers_below 1 ns next m.nodes.rising).1)))

  pushed_old : (k : ℕ) → k ≢ next → node_in (ns ++ n ∷ []) k ≡ node_in ns k
  pushed_old k ne = in_pushed_other ns n k (λ e. ne (e ∙ m.number))

  grows : Grows (hook_of ns) (hook_of (ns ++ n ∷ [])) next (next + 1) next d name up
  grows = record {
    tree = m.nodes.tree;
    more = omega arith;
    low = omega arith;
    vacant = ap hook_held vacant;
    put = ap hook_held pushed_new ∙ m.hook;
    others = λ q ne. ap hook_held (pushed_old q ne);
    under = m.free.under;
    free = m.free.free;
  }

  directory_stays : (k : ℕ) → is_directory_in ns k ≡ true → is_directory_in (ns ++ n ∷ []) k ≡ true
  directory_stays k e = by_node (node_in ns k) refl where
    by_node : (o : Option Node) → node_in ns k ≡ o → is_directory_in (ns ++ n ∷ []) k ≡ true
    by_node None none =
        absurd (let t : false
        ≡ true = sym (ap (λ (o : Option Node). holds_directory_node (content_held o)) none) ∙ e in
        cc)
    by_node (Some x) some =
        ap (λ (o : Option Node). holds_directory_node (content_held o))
        (in_pushed_there ns n k x some ∙ sym some) ∙ e

  old_hook : (k e : ℕ) (other : Name) → hook_of (ns ++ n ∷ []) k ≡ In e other
      → ((e ≡ d) × (other ≡ name)) ⊎ (hook_of ns k ≡ In e other)
  old_hook k e other h = elim (cases_eq k next) [
    | inl same ↦ (let t : In d name ≡ In e other = sym (ap hook_held pushed_new ∙ m.hook)
        ∙ ap (hook_of (ns ++ n ∷ [])) (sym same) ∙ h in inl (cc, cc))
    | inr ne ↦ inr (sym (ap hook_held (pushed_old k ne)) ∙ h)
  ]

  pub made_nodes : length ns < NODES → IsSmallContent c → AreNodes (ns ++ n ∷ []) (next + 1)
  made_nodes room small = record {
    tree = grown_tree (hook_of ns) (hook_of (ns ++ n ∷ [])) next (next + 1) next d name up grows;
    rising = rising_pushed 1 ns n next m.number m.nodes.rising;
    named = λ k e other h.
        elim (old_hook k e other h) [
          | inl same ↦ subst IsNodeName
              (sym same.1) m.named
          | inr before ↦ m.nodes.named k e other before
        ];
    placed = λ k e other h.
        elim (old_hook k e other h) [
          | inl same ↦ directory_stays e
              (subst (λ (x : ℕ). is_directory_in ns x ≡ true) (sym same.0) m.free.directory)
          | inr before
              ↦ directory_stays e (m.nodes.placed k e other before)
        ];
    root = directory_stays 1 m.nodes.root;
    contents = all_pushed (λ (x : Node). IsSmallContent (content_shown x.content)) ns n
        m.nodes.contents (subst IsSmallContent (sym m.content) small);
    few = omega (arith, length_push ns n, room);
  }

  pub made_files : files (ns ++ n ∷ []) (next + 1) ≡ created (p ++ name ∷ []) c (files ns next)
  made_files =
      let hook = hook_of ns in
      let after = hook_of (ns ++ n ∷ []) in
      let old : map (shown_node (next + 1) after) ns ≡ map (shown_node next hook) ns =
      map_same (shown_node (next + 1) after) (shown_node next hook) (λ (k : Node). k.number
      < next) ns (λ k lt. ap (λ (o : Option Path). record {
        number = k.number;
        path = option_map reverse o;
        content = content_shown k.content;
      }) (same_climb hook after next (next
      + 1) next d name up grows k.number (λ e. absurd (omega (arith, lt, e)))))
      (numbers_below 1 ns next m.nodes.rising).1 in
      let whole : reverse (name ∷ up) ≡ p ++ name ∷ [] = reverse-cons name up
      ∙ ap (λ (q : Path). q ++ name ∷ []) m.free.up_is in
      let new_path : option_map reverse (climb (next + 1) after n.number) ≡ Some (p ++ name ∷ []) =
      ap (λ (j : ℕ). option_map reverse (climb (next + 1) after j)) m.number
      ∙ ap (option_map reverse) (new_climb hook after next (next + 1) next d name up grows)
      ∙ ap (λ (q : Path). Some q) whole in
      let last : FileNode = record { number = next; path = Some (p ++ name ∷ []); content = c } in
      let new : shown_node (next + 1) after n ≡ last =
      ap (λ (o : Option Path). record {
        number = n.number;
        path = o;
        content = content_shown n.content;
      }) new_path
      ∙ ap (λ (j : ℕ). record {
        number = j;
        path = Some (p ++ name ∷ []);
        content = content_shown n.content;
      }) m.number
      ∙ ap (λ (x : Content). record {
        number = next;
        path = Some (p ++ name ∷ []);
        content = x;
      }) m.content in
      let nodes : map (shown_node (next + 1) after) (ns ++ n ∷ []) ≡ map (shown_node next hook) ns
      ++ last ∷ [] = map_push (shown_node (next + 1) after) ns n
      ∙ ap (λ (xs : List FileNode). xs ++ shown_node (next + 1) after n ∷ []) old
      ∙ ap (λ (x : FileNode). map (shown_node next hook) ns ++ x ∷ []) new in
      ap (λ (xs : List FileNode). record { nodes = xs; next = next + 1 }) nodes

  pub made_used : length (bytes_of_content c) ≡ 0 → used_in (ns ++ n ∷ []) ≡ used_in ns
  made_used e = omega (
    arith,
    sum_by_push (λ (x : Node). length (file_bytes_of x)) ns n,
    ap (λ (x : Content). length (bytes_of_content x)) m.content,
    e,
  )

pub empty_is_small : (k : NodeType) → IsSmallContent (empty k)
    × (length (bytes_of_content (empty k)) ≡ 0)
empty_is_small node_types.Directory = (tt, refl)
empty_is_small node_types.File = ((omega arith, tt), refl)

-- all of it, where files are what the nodes show
pub record IsMade (ns : List Node) (next d : ℕ) (name : Name) (k : NodeType) (n : Node)
    (fs : Files) : Type 0 where
  pub nodes : AreNodes (ns ++ n ∷ []) (next + 1)
  pub files_are : files (ns ++ n ∷ []) (next + 1) ≡ created (path_at fs d ++ name ∷ []) (empty k) fs
  pub used : used_in (ns ++ n ∷ []) ≡ used_in ns

pub is_made : (ns : List Node) (next d : ℕ) (name : Name) (k : NodeType) (n : Node) (fs : Files)
    → files ns next ≡ fs → AreNodes ns next → IsFree fs d name → length fs.nodes < NODES
    → n.number ≡ next → n.hook ≡ In d name → content_shown n.content ≡ empty k
    → IsMade ns next d name k n fs
is_made ns next d name k n fs e are f room number hook content =
    let free = subst (λ (x : Files). IsFree x d name) (sym e) f in
    let found = free_in ns next d name are free in
    let p = path_at (files ns next) d in
    let m : Makes ns next d name p found.0 (empty k) n = record {
      nodes = are;
      free = found.1;
      named = f.named;
      number = number;
      hook = hook;
      content = content;
    } in
    let few : length ns < NODES =
    omega (
      arith,
      room,
      ap (λ (x : Files). length x.nodes) e,
      length-map ns (shown_node next (hook_of ns)),
    ) in
    record {
      nodes = made_nodes ns next d name p found.0 (empty k) n m few (empty_is_small k).0;
      files_are = made_files ns next d name p found.0 (empty k) n m
          ∙ ap (λ (x : Files). created (path_at x d ++ name ∷ []) (empty k) x) e;
      used = made_used ns next d name p found.0 (empty k) n m (empty_is_small k).1;
    }
