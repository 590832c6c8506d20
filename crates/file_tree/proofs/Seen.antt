-- What hangs in a directory, and the paths below the directory's.
use Rattle.std.proofs.Common.{◌≡◌, ◌≢◌, ℕ, suc, ◌+◌, ◌≤◌, ◌⊎◌, inl, inr, Bool, true, false, cond}
use Rattle.std.proofs.Common.{eqb, not, List, [], ◌∷◌, ◌++◌, length, map, reverse, Option, Some}
use Rattle.std.proofs.Common.{None, refl, sym, ap, subst, ◌∙◌, arith}
use Rattle.std.specs.Prelude.{option_map, find, ◌&&◌}
use Rattle.std.specs.Option.{option_and_then}
use Rattle.std.specs.List.{AllByRecursion}
use Rattle.std.proofs.lemmas.Bool.{cases_eq, eq-eqb, ne_eqb}
use Rattle.std.proofs.lemmas.List.{same_from_push}
use Rattle.std.proofs.lemmas.Option.{same_Some}
use mathlib.Core.List.{reverse-cons, reverse-reverse}
use Rattle.file_tree.specs.declared.store.node.Hook.{Hook}
use Rattle.file_tree.specs.declared.store.node.Hook.TheVariants.{Root, Removed, In}
use Rattle.file_tree.specs.declared.store.node.Node.{Node}
use Rattle.file_tree.specs.rules.Files.{Name, Path, FileNode, Entry, is_same_name, is_at, at}
use Rattle.file_tree.specs.rules.Files.{path_of, child, name_behind, entry_of, entries_in}
use Rattle.file_tree.specs.rules.Files.{entries_under, entries_of, inserted, sorted, is_before}
use Rattle.file_tree.specs.Links.{Up, climb, IsTree, node_in, hook_held, hook_of, AreNodes}
use Rattle.file_tree.specs.Links.{AreRisingNodes, shown_node, files, is_hooked, child_in, is_in}
use Rattle.file_tree.specs.Links.{has_child, hooked_name, hooked_entry, hooked_entries, with_entry}
use Rattle.file_tree.proofs.SameNames.{name_or_not, same_or_not}
use Rattle.file_tree.proofs.Climbs.{path_is, no_path, one_path, one_node, in_is}
use Rattle.file_tree.proofs.Lookups.{path_shown}
use Rattle.file_tree.proofs.Lists.{numbers_from}
use Rattle.file_tree.proofs.Grows.{way_up}

-- ---- each node in the list is the one of its number

pub own_hooks : (least : ℕ) (ns : List Node) (next : ℕ) → AreRisingNodes least ns next
    → AllByRecursion (λ (n : Node). hook_of ns n.number ≡ n.hook) ns
own_hooks least [] next h = tt
own_hooks least (m ∷ ns) next h = (
  ap (λ (b : Bool). hook_held (cond b (Some m) (node_in ns m.number)))
      (eq-eqb m.number m.number refl),
  later ns (own_hooks (m.number + 1) ns next h.1) (numbers_from (m.number + 1) ns next h.1),
) where
  later : (xs : List Node) → AllByRecursion (λ (n : Node). hook_of ns n.number ≡ n.hook) xs
      → AllByRecursion (λ (n : Node). m.number + 1 ≤ n.number) xs
      → AllByRecursion (λ (n : Node). hook_of (m ∷ ns) n.number ≡ n.hook) xs
  later [] g above = tt
  later (x ∷ xs) g above = (
    (let ne : m.number ≢ x.number = λ e. absurd (omega (arith, above.0, e)) in
        ap (λ (b : Bool). hook_held (cond b (Some m) (node_in ns x.number)))
        (ne_eqb m.number x.number ne) ∙ g.0),
    later xs g.1 above.1,
  )

-- ---- a node either hangs in the directory, under the last name of its path, or its path isn't so

abbrev pub Sees : (ℕ → Hook) → ℕ → ℕ → Path → ℕ → Type 0
Sees hook next d p k =
    ((name : Name) × (hook k ≡ In d name)
    × (option_map reverse (climb next hook k) ≡ Some (p ++ name ∷ [])))
    ⊎ (((name : Name) → hook k ≢ In d name) × ((name : Name)
    → option_map reverse (climb next hook k) ≢ Some (p ++ name ∷ [])))

pub some_path : (p q : Path) → Some p ≡ Some q → p ≡ q
some_path p q e = cc

pub not_nil : (p : Path) (name : Name) → [] ≢ p ++ name ∷ []
not_nil [] name e = absurd cc
not_nil (x ∷ p) name e = absurd cc

pub sees : (hook : ℕ → Hook) (next d : ℕ) (up : Path) → IsTree hook next → Up hook d up → (k : ℕ)
    → Sees hook next d (reverse up) k
sees hook next d up tree under k = by_hook (hook k) refl where
  path : (a : Path) → Up hook k a → option_map reverse (climb next hook k) ≡ Some (reverse a)
  path a h = ap (option_map reverse) (path_is hook next tree k a h)

  by_way : (e : ℕ) (other : Name) → hook k ≡ In e other → (a : Path) → Up hook e a
      → Sees hook next d (reverse up) k
  by_way e other is a above =
      let whole : option_map reverse (climb next hook k) ≡ Some (reverse a ++ other ∷ []) =
      path (other ∷ a) (e, is, above) ∙ ap (λ (q : Path). Some q) (reverse-cons other a) in
      elim (cases_eq e d) [
        | inl same ↦
            let ways : a ≡ up =
            one_path hook e a up above (subst (λ (x : ℕ). Up hook x up) (sym same) under) in
            inl (
              other,
              is ∙ ap (λ (x : ℕ). In x other) same,
              whole
                  ∙ ap (λ (x : Path). Some (reverse x ++ other ∷ [])) ways,
            )
        | inr ne ↦ inr (
          (λ name h. ne (in_is e d other name (sym is ∙ h)).0),
          (λ name h. ne (one_node hook next tree e d up (subst (Up hook e) (sym (reverse-reverse a)
              ∙ ap reverse (same_from_push (reverse a) (reverse up) other name (some_path (reverse a
              ++ other ∷ []) (reverse up ++ name ∷ []) (sym whole ∙ h))).0
              ∙ reverse-reverse up) above) under)),
        )
      ]

  by_up : (e : ℕ) (other : Name) → hook k ≡ In e other → (a : Path) → Up hook k a
      → Sees hook next d (reverse up) k
  by_up e other is [] h = absurd (let t : In e other ≡ Root = sym is ∙ h in cc)
  by_up e other is (name ∷ a) h = by_way h.0 name h.1 a h.2

  by_hook : (h : Hook) → hook k ≡ h → Sees hook next d (reverse up) k
  by_hook Root e = inr (
    (λ name h. absurd (let t : Root ≡ In d name = sym e ∙ h in cc)),
    (λ name h. not_nil (reverse up) name (some_path [] (reverse up ++ name ∷ []) (sym (path [] e)
        ∙ h))),
  )
  by_hook Removed e = inr (
    (λ name h. absurd (let t : Removed ≡ In d name = sym e ∙ h in cc)),
    (λ name h. absurd (let t : None
        ≡ Some (reverse up ++ name ∷ []) = sym (ap (option_map reverse) (no_path next hook k e)) ∙ h
        in cc)),
  )
  by_hook (In e other) is =
      (let r = tree.reached k (λ gone. absurd (let t : In e other ≡ Removed = sym is ∙ gone in cc))
      in by_up e other is r.0 r.1)

-- ---- a name in a directory

is_at_path : (q : Path) (o : Option Path) → o ≡ Some q → is_at q o ≡ true
is_at_path q o e =
    ap (is_at q) e
    ∙ elim (same_or_not q q) [ inl same ↦ same.0 | inr apart ↦ absurd (apart.1 refl) ]

is_not_at : (q : Path) (o : Option Path) → o ≢ Some q → is_at q o ≡ false
is_not_at q None ne = refl
is_not_at q (Some p) ne =
    elim (same_or_not q p) [
      | inl same ↦ absurd (ne (ap (λ (x : Path). Some x) (sym same.1)))
      | inr
          apart ↦ apart.0
    ]

same_name : (name : Name) → is_same_name name name ≡ true
same_name name =
    elim (name_or_not name name) [ inl same ↦ same.0 | inr apart ↦ absurd (apart.1 refl) ]

hooked : (d : ℕ) (name : Name) → is_hooked d name (In d name) ≡ true
hooked d name = rw (eq-eqb d d refl, same_name name) refl

not_hooked : (d : ℕ) (name : Name) (h : Hook) → h ≢ In d name → is_hooked d name h ≡ false
not_hooked d name Root ne = refl
not_hooked d name Removed ne = refl
not_hooked d name (In e other) ne = by (cases_eq e d) (name_or_not other name) where
  by : (e ≡ d) ⊎ (e ≢ d) → ((is_same_name other name ≡ true) × (other ≡ name))
      ⊎ ((is_same_name other name ≡ false) × (other ≢ name))
      → (eqb e d && is_same_name other name) ≡ false
  by (inr n) o = rw (ne_eqb e d n) refl
  by (inl s) (inr o) = rw (eq-eqb e d s, o.0) refl
  by (inl s) (inl o) = absurd (ne (ap (λ (x : ℕ). In x other) s ∙ ap (In d) o.1))

-- a path below the directory's is that of what hangs there under the name
at_hooked : (hook : ℕ → Hook) (next d : ℕ) (p : Path) (name : Name) (k : ℕ) → Sees hook next d p k
    → is_at (p ++ name ∷ []) (option_map reverse (climb next hook k)) ≡ is_hooked d name (hook k)
at_hooked hook next d p name k (inr off) =
    is_not_at (p ++ name ∷ []) (option_map reverse (climb next hook k)) (off.1 name)
    ∙ sym (not_hooked d name (hook k) (off.0 name))
at_hooked hook next d p name k (inl on) = elim (name_or_not on.0 name) [
  | inl same ↦ is_at_path (p ++ name ∷ []) (option_map reverse (climb next hook k)) (on.2
      ∙ ap (λ (x : Name). Some (p ++ x ∷ [])) same.1)
      ∙ sym (ap (is_hooked d name) (on.1 ∙ ap (In d) same.1) ∙ hooked d name)
  | inr apart ↦
      is_not_at (p ++ name ∷ []) (option_map reverse (climb next hook k)) (λ h.
      apart.1 (same_from_push p p on.0 name (some_path (p ++ on.0 ∷ []) (p ++ name ∷ []) (sym on.2
      ∙ h))).1)
      ∙ sym (not_hooked d name (hook k) (λ h. apart.1 (in_is d d on.0 name (sym on.1 ∙ h)).1))
]

find_hooked : (hook : ℕ → Hook) (next d : ℕ) (p : Path) (name : Name) (ns : List Node)
    → ((k : ℕ) → Sees hook next d p k) → AllByRecursion (λ (n : Node). hook n.number ≡ n.hook) ns
    → option_map (λ (n : FileNode). n.number) (find (λ (n : FileNode). is_at (p
    ++ name ∷ []) n.path) (map (shown_node next hook) ns)) ≡ child_in ns d name
find_hooked hook next d p name [] see own = refl
find_hooked hook next d p name (n ∷ ns) see own =
    by_test (is_at (p ++ name ∷ []) (option_map reverse (climb next hook n.number)))
    (at_hooked hook next d p name n.number (see n.number)
    ∙ ap (is_hooked d name) own.0) (find_hooked hook next d p name ns see own.1) where
      by_test : (b : Bool) → b ≡ is_hooked d name n.hook
          → option_map (λ (n : FileNode). n.number) (find (λ (n : FileNode). is_at (p
          ++ name ∷ []) n.path) (map (shown_node next hook) ns)) ≡ child_in ns d name
          → option_map (λ (n : FileNode). n.number) (cond b (Some (shown_node next hook n))
          (find (λ (n : FileNode). is_at (p ++ name ∷ []) n.path)
          (map (shown_node next hook) ns)))
          ≡ cond (is_hooked d name n.hook) (Some n.number) (child_in ns d name)
      by_test true e later = ap (λ (b : Bool). cond b (Some n.number) (child_in ns d name)) e
      by_test false e later =
          later ∙ ap (λ (b : Bool). cond b (Some n.number) (child_in ns d name)) e

-- in a removed directory nothing hangs
pub nothing_in : (ns : List Node) (next d : ℕ) → AreNodes ns next → path_of (files ns next) d ≡ None
    → (k : ℕ) (name : Name) → hook_of ns k ≢ In d name
nothing_in ns next d are gone k name is = by_up r.0 r.1 where
  r : (up : Path) × Up (hook_of ns) k up
  r = are.tree.reached k (λ e. absurd (let t : In d name ≡ Removed = sym is ∙ e in cc))

  by_up : (a : Path) → Up (hook_of ns) k a → ⊥
  by_up [] h = absurd (let t : In d name ≡ Root = sym is ∙ h in cc)
  by_up (other ∷ a) h =
      let e : h.0 ≡ d = (in_is h.0 d other name (sym h.1 ∙ is)).0 in
      let here : Up (hook_of ns) d a = subst (λ (x : ℕ). Up (hook_of ns) x a) e h.2 in
      absurd (let t : None ≡ Some (reverse a) = sym gone ∙ path_shown ns next d
      ∙ ap (option_map reverse) (path_is (hook_of ns) next are.tree d a here) in cc)

none_hooked : (d : ℕ) (name : Name) (hook : ℕ → Hook) (ns : List Node)
    → ((k : ℕ) → hook k ≢ In d name) → AllByRecursion (λ (n : Node). hook n.number ≡ n.hook) ns
    → child_in ns d name ≡ None
none_hooked d name hook [] off own = refl
none_hooked d name hook (n ∷ ns) off own =
    ap (λ (b : Bool). cond b (Some n.number) (child_in ns d name)) (not_hooked d name n.hook (λ e.
    off n.number (own.0 ∙ e))) ∙ none_hooked d name hook ns off own.1

pub child_shown : (ns : List Node) (next d : ℕ) (name : Name) → AreNodes ns next
    → child (files ns next) d name ≡ child_in ns d name
child_shown ns next d name are = by_path (path_of (files ns next) d) refl where
  by_path : (o : Option Path) → path_of (files ns next) d ≡ o
      → child (files ns next) d name ≡ child_in ns d name
  by_path None e =
      ap (option_and_then (λ p. option_map (λ (n : FileNode). n.number) (at (files ns next) (p
      ++ name ∷ [])))) e
      ∙ sym (none_hooked d name (hook_of ns) ns (λ k. nothing_in ns next d are e k name)
      (own_hooks 1 ns next are.rising))
  by_path (Some p) e =
      let way = way_up ns next d p e in
      ap (option_and_then (λ p. option_map (λ (n : FileNode). n.number) (at (files ns next) (p
      ++ name ∷ [])))) e
      ∙ find_hooked (hook_of ns) next d p name ns (λ k.
      subst (λ (q : Path). Sees (hook_of ns) next d q k) way.1
      (sees (hook_of ns) next d way.0 are.tree way.2 k)) (own_hooks 1 ns next are.rising)

-- ---- the entries of a directory

pub front_name : (p : Path) (name : Name) → name_behind p (p ++ name ∷ []) ≡ Some name
front_name [] name = refl
front_name (x ∷ p) name = rw (same_name x) (front_name p name)

pub name_is_behind : (p q : Path) (name : Name) → name_behind p q ≡ Some name → q ≡ p ++ name ∷ []
name_is_behind [] [] name e = absurd cc
name_is_behind [] (x ∷ []) name e = ap (λ (n : Name). n ∷ []) (same_Some x name e)
name_is_behind [] (x ∷ y ∷ q) name e = absurd cc
name_is_behind (x ∷ p) [] name e = absurd cc
name_is_behind (x ∷ p) (y ∷ q) name e = by (name_or_not x y) (name_is_behind p q name) e where
  by : ((is_same_name x y ≡ true) × (x ≡ y)) ⊎ ((is_same_name x y ≡ false) × (x ≢ y))
      → (name_behind p q ≡ Some name → q ≡ p ++ name ∷ [])
      → cond (is_same_name x y) (name_behind p q) None ≡ Some name → y ∷ q ≡ x ∷ (p ++ name ∷ [])
  by (inl h) later e = ap (λ (z : Name). z ∷ q) (sym h.1)
      ∙ ap (λ (z : Path). x ∷ z) (later (sym (ap (λ (b : Bool). cond b (name_behind p q) None) h.0)
      ∙ e))
  by (inr h) later e =
      absurd (let t : None ≡ Some name = sym (ap (λ (b : Bool). cond b (name_behind p q) None) h.0)
      ∙ e in cc)

not_behind : (p : Path) (o : Option Path) → ((name : Name) → o ≢ Some (p ++ name ∷ []))
    → option_and_then (name_behind p) o ≡ None
not_behind p None off = refl
not_behind p (Some q) off = by (name_behind p q) refl where
  by : (o : Option Name) → name_behind p q ≡ o → name_behind p q ≡ None
  by None e = e
  by (Some name) e = absurd (off name (ap (λ (z : Path). Some z) (name_is_behind p q name e)))

out_of : (d : ℕ) (h : Hook) → ((name : Name) → h ≢ In d name) → hooked_name d h ≡ None
out_of d Root off = refl
out_of d Removed off = refl
out_of d (In e other) off = elim (cases_eq e d) [
  | inl same ↦ absurd (off other (ap (λ (x : ℕ). In x other) same))
  | inr ne ↦ ap (λ (b : Bool). cond b (Some other) None) (ne_eqb e d ne)
]

-- the name after the directory's path is that under which the node hangs there
name_hooked : (hook : ℕ → Hook) (next d : ℕ) (p : Path) (k : ℕ) → Sees hook next d p k
    → option_and_then (name_behind p) (option_map reverse (climb next hook k))
    ≡ hooked_name d (hook k)
name_hooked hook next d p k (inl on) =
    ap (option_and_then (name_behind p)) on.2 ∙ front_name p on.0
    ∙ sym (ap (hooked_name d) on.1
    ∙ ap (λ (b : Bool). cond b (Some on.0) None) (eq-eqb d d refl))
name_hooked hook next d p k (inr off) = not_behind p (option_map reverse (climb next hook k)) off.1
    ∙ sym (out_of d (hook k) off.0)

entry_hooked : (hook : ℕ → Hook) (next d : ℕ) (p : Path) (n : Node) → Sees hook next d p n.number
    → hook n.number ≡ n.hook → entry_of p (shown_node next hook n) ≡ hooked_entry d n
entry_hooked hook next d p n see own =
    ap (option_map (λ (name : Name). record {
      name = name;
      number = n.number;
    })) (name_hooked hook next d p n.number see ∙ ap (hooked_name d) own)

pub entries_hooked : (hook : ℕ → Hook) (next d : ℕ) (p : Path) (ns : List Node)
    → ((k : ℕ) → Sees hook next d p k) → AllByRecursion (λ (n : Node). hook n.number ≡ n.hook) ns
    → entries_in p (map (shown_node next hook) ns) ≡ hooked_entries d ns
entries_hooked hook next d p [] see own = refl
entries_hooked hook next d p (n ∷ ns) see own =
    by (hooked_entry d n) refl (entry_hooked hook next d p n (see n.number) own.0)
    (entries_hooked hook next d p ns see own.1) where
      by : (o : Option Entry) → hooked_entry d n ≡ o
          → entry_of p (shown_node next hook n) ≡ hooked_entry d n
          → entries_in p (map (shown_node next hook) ns) ≡ hooked_entries d ns
          → entries_in p (map (shown_node next hook) (n ∷ ns)) ≡ hooked_entries d (n ∷ ns)
      by None h e later = rw (e, h) later
      by (Some x) h e later = rw (e, h) (ap (λ (xs : List Entry). x ∷ xs) later)

none_in : (d : ℕ) (hook : ℕ → Hook) (ns : List Node) → ((k : ℕ) (name : Name) → hook k ≢ In d name)
    → AllByRecursion (λ (n : Node). hook n.number ≡ n.hook) ns → hooked_entries d ns ≡ []
none_in d hook [] off own = refl
none_in d hook (n ∷ ns) off own =
    ap (λ (o : Option Name). with_entry (option_map (λ (name : Name). record {
      name = name;
      number = n.number;
    }) o) (hooked_entries d ns)) (out_of d n.hook (λ name e.
    off n.number name (own.0 ∙ e))) ∙ none_in d hook ns off own.1

-- a directory's entries are those of the nodes that hang in it
pub entries_shown : (ns : List Node) (next d : ℕ) → AreNodes ns next
    → entries_of (files ns next) d ≡ sorted (hooked_entries d ns)
entries_shown ns next d are = by_path (path_of (files ns next) d) refl where
  by_path : (o : Option Path) → path_of (files ns next) d ≡ o
      → entries_of (files ns next) d ≡ sorted (hooked_entries d ns)
  by_path None e = ap (entries_under (files ns next)) e
      ∙ sym (ap sorted (none_in d (hook_of ns) ns (λ k name. nothing_in ns next d are e k name)
      (own_hooks 1 ns next are.rising)))
  by_path (Some p) e =
      let way = way_up ns next d p e in
      ap (entries_under (files ns next)) e
      ∙ ap sorted (entries_hooked (hook_of ns) next d p ns (λ k.
      subst (λ (q : Path). Sees (hook_of ns) next d q k) way.1
      (sees (hook_of ns) next d way.0 are.tree way.2 k)) (own_hooks 1 ns next are.rising))

-- ---- whether there are any

pub length-inserted : (e : Entry) (es : List Entry) → length (inserted e es) ≡ suc (length es)
length-inserted e [] = refl
length-inserted e (f ∷ es) = by (is_before e.name f.name) (length-inserted e es) where
  by : (b : Bool) → length (inserted e es) ≡ suc (length es)
      → length (cond b (e ∷ f ∷ es) (f ∷ inserted e es)) ≡ suc (suc (length es))
  by true later = refl
  by false later = ap suc later

pub length-sorted : (es : List Entry) → length (sorted es) ≡ length es
length-sorted [] = refl
length-sorted (e ∷ es) = length-inserted e (sorted es) ∙ ap suc (length-sorted es)

some_inserted : (e : Entry) (es : List Entry) → eqb (length (inserted e es)) 0 ≡ false
some_inserted e es =
    ne_eqb (length (inserted e es)) 0 (λ is. absurd (omega (arith, is, length-inserted e es)))

none_hooked_in : (d : ℕ) (ns : List Node)
    → eqb (length (sorted (hooked_entries d ns))) 0 ≡ not (has_child ns d)
none_hooked_in d [] = refl
none_hooked_in d (n ∷ ns) = by n.hook refl (none_hooked_in d ns) where
  by_test : (name : Name) (b : Bool)
      → eqb (length (sorted (hooked_entries d ns))) 0 ≡ not (has_child ns d)
      → eqb (length (sorted (with_entry (option_map (λ (name : Name). record {
        name = name;
        number = n.number;
      }) (cond b (Some name) None)) (hooked_entries d ns)))) 0
      ≡ not (cond b true (has_child ns d))
  by_test name true later =
      some_inserted (record { name = name; number = n.number }) (sorted (hooked_entries d ns))
  by_test name false later = later

  by : (h : Hook) → n.hook ≡ h
      → eqb (length (sorted (hooked_entries d ns))) 0 ≡ not (has_child ns d)
      → eqb (length (sorted (hooked_entries d (n ∷ ns)))) 0 ≡ not (has_child (n ∷ ns) d)
  by Root e later = rw e later
  by Removed e later = rw e later
  by (In x other) e later = rw e (by_test other (eqb x d) later)

pub empty_shown : (ns : List Node) (next d : ℕ) → AreNodes ns next
    → eqb (length (entries_of (files ns next) d)) 0 ≡ not (has_child ns d)
empty_shown ns next d are =
    ap (λ (es : List Entry). eqb (length es) 0) (entries_shown ns next d are) ∙ none_hooked_in d ns

-- no node hangs in an empty directory
pub no_child : (ns : List Node) (d : ℕ) → has_child ns d ≡ false → (k : ℕ) (name : Name)
    → hook_of ns k ≢ In d name
no_child [] d none k name e = absurd (let t : Removed ≡ In d name = e in cc)
no_child (n ∷ ns) d none k name e =
    by (is_in d n.hook) refl (eqb n.number k) (no_child ns d) none e where
      by : (b : Bool) → is_in d n.hook ≡ b → (t : Bool)
          → (has_child ns d ≡ false → (k : ℕ) (name : Name) → hook_of ns k ≢ In d name)
          → cond b true (has_child ns d) ≡ false
          → hook_held (cond t (Some n) (node_in ns k)) ≡ In d name → ⊥
      by true is t later none e = absurd cc
      by false is true later none e =
          absurd (let t : true ≡ false = sym (ap (is_in d) e ∙ eq-eqb d d refl) ∙ is in cc)
      by false is false later none e = later none k name e
