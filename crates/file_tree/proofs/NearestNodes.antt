-- The nearest node after a name is the one of the first entry after it.
use Rattle.std.proofs.Common.{◌≡◌, ◌≢◌, ℕ, zero, suc, ◌+◌, ◌-◌, ◌<◌, ◌≤◌, ◌⊎◌, inl, inr, Bool, true}
use Rattle.std.proofs.Common.{false, cond, eqb, not, length, Bor, List, [], ◌∷◌, Option, Some, None}
use Rattle.std.proofs.Common.{refl, sym, ap, subst, ◌∙◌, arith}
use Rattle.std.specs.Prelude.{slice_get, option_map, option_copied, is_some, find, ◌&&◌}
use Rattle.std.specs.List.{AllByRecursion}
use Rattle.std.proofs.lemmas.Bool.{cases_eq, cases_lt, eq-eqb, ne_eqb}
use Rattle.std.proofs.lemmas.Option.{same_Some}
use Rattle.file_tree.specs.declared.store.node.Hook.{Hook}
use Rattle.file_tree.specs.declared.store.node.Hook.TheVariants.{Root, Removed, In}
use Rattle.file_tree.specs.declared.store.node.Node.{Node}
use Rattle.file_tree.specs.rules.Files.{Name, Entry, is_before, sorted, entries_of}
use Rattle.file_tree.specs.rules.Listings.{number_at_place, number_after, HasNameAtPlace}
use Rattle.file_tree.specs.Links.{hook_of, AreNodes, files, name_of_hook}
use Rattle.file_tree.specs.Links.{hooked_name, hooked_entries, with_entry}
use Rattle.file_tree.specs.Store.Joined.{kept_number}
use Rattle.file_tree.specs.Nearest.{comes_after, is_nearer, nearest_node, next_node}
use Rattle.file_tree.specs.Nearest.{node_listed, IsCountListed}
use Rattle.file_tree.proofs.Order.{Ordered, HaveDistinctNames, ordered_sorted, all_sorted, all_at}
use Rattle.file_tree.proofs.Closest.{is_closer, closest, closest_sorted, closest_ordered}
use Rattle.file_tree.proofs.Closest.{found_behind, found_first}
use Rattle.file_tree.proofs.DistinctNames.{distinct_names}
use Rattle.file_tree.proofs.Seen.{own_hooks, entries_shown}

-- an entry of this number and name
abbrev entry_named : ℕ → Name → Entry
entry_named k name = record { name = name; number = k }

-- the entry of a node that hangs in a directory
abbrev entry_with : Node → Entry
entry_with n = entry_named n.number (name_of_hook n.hook)

-- entries after the one of this number and name, where there is a name
abbrev behind_hooked : ℕ → List Entry → Option Name → List Entry
behind_hooked k es name = with_entry (option_map (entry_named k) name) es

abbrev number_of : Option Entry → Option ℕ
number_of o = option_map (λ (e : Entry). e.number) o

-- ---- the nearest node is the closest entry

not_nearer : (d : ℕ) (name : Name) (nearest : Option Node) (h : Hook)
    → comes_after d name h ≡ false → is_nearer d name nearest h ≡ false
not_nearer d name None h is = is
not_nearer d name (Some n) h is = rw is refl

nearer_in : (d x : ℕ) (name other : Name) (nearest : Option Node) (k : ℕ) → eqb x d ≡ true
    → is_nearer d name nearest (In x other)
    ≡ is_closer name (option_map entry_with nearest) (entry_named k other)
nearer_in d x name other None k is = rw is refl
nearer_in d x name other (Some n) k is = rw is refl

-- walked from these, nodes and entries lead to the same entry
abbrev AreNearest : ℕ → Name → List Node → List Entry → Option Node → Option Entry → Type 0
AreNearest d name ns es nearest best =
    option_map entry_with (nearest_node d name nearest ns) ≡ closest name best es

abbrev IsNearestOf : ℕ → Name → List Node → Option Node → Type 0
IsNearestOf d name ns nearest =
    AreNearest d name ns (hooked_entries d ns) nearest (option_map entry_with nearest)

nearest_is : (d : ℕ) (name : Name) (nearest : Option Node) (ns : List Node)
    → IsNearestOf d name ns nearest
nearest_is d name nearest [] = refl
nearest_is d name nearest (n ∷ ns) = by n.hook refl (λ o. nearest_is d name o ns) where
  best : Option Entry
  best = option_map entry_with nearest

  es : List Entry
  es = hooked_entries d ns

  All : Type 0
  All = (o : Option Node) → IsNearestOf d name ns o

  To : List Entry → Type 0
  To others = AreNearest d name (n ∷ ns) others nearest best

  passed : comes_after d name n.hook ≡ false → All → To es
  passed is later =
      let far : is_nearer d name nearest n.hook ≡ false = not_nearer d name nearest n.hook is in
      ap (λ (b : Bool). option_map entry_with (nearest_node d name (cond b (Some n) nearest) ns))
      far
      ∙ later nearest

  closer : Entry → Name → Option Entry
  closer m y = cond (is_closer name best (entry_named n.number y)) (Some m) best

  taken : (b : Bool) → All
      → AreNearest d name ns es (cond b (Some n) nearest) (cond b (Some (entry_with n)) best)
  taken true later = later (Some n)
  taken false later = later nearest

  by_test : (x : ℕ) (other : Name) → n.hook ≡ In x other → (b : Bool) → eqb x d ≡ b → All
      → To (behind_hooked n.number es (cond b (Some other) None))
  by_test x other e false is later =
      let out : eqb x d && is_before name other ≡ false =
      ap (λ (t : Bool). t && is_before name other) is in
      passed (ap (comes_after d name) e ∙ out) later
  by_test x other e true is later =
      let nearer : is_nearer d name nearest n.hook
      ≡ is_closer name best (entry_named n.number other) =
      ap (is_nearer d name nearest) e ∙ nearer_in d x name other nearest n.number is in
      let same : entry_with n ≡ entry_named n.number other =
      ap (λ (h : Hook). entry_named n.number (name_of_hook h)) e in
      taken (is_nearer d name nearest n.hook) later
      ∙ ap (λ (b : Bool). closest name (cond b (Some (entry_with n)) best) es) nearer
      ∙ ap (λ (m : Entry). closest name (closer m other) es) same

  seen_so : (h : Hook) → n.hook ≡ h
      → To (behind_hooked n.number es (hooked_name d h)) → IsNearestOf d name (n ∷ ns) nearest
  seen_so h e so =
      so ∙ sym (ap (λ (g : Hook). closest name best (behind_hooked n.number es (hooked_name d g)))
      e)

  by : (h : Hook) → n.hook ≡ h → All → IsNearestOf d name (n ∷ ns) nearest
  by Root e later = seen_so Root e (passed (ap (comes_after d name) e) later)
  by Removed e later = seen_so Removed e (passed (ap (comes_after d name) e) later)
  by (In x other) e later = seen_so (In x other) e (by_test x other e (eqb x d) refl later)

-- ---- the entries of a directory

number_with : (o : Option Node)
    → option_map (λ (n : Node). n.number) o ≡ number_of (option_map entry_with o)
number_with None = refl
number_with (Some n) = refl

distinct_in : (ns : List Node) (next d : ℕ) → AreNodes ns next
    → HaveDistinctNames (hooked_entries d ns)
distinct_in ns next d are =
    distinct_names (hook_of ns) next d are.tree 1 ns next are.rising
    (own_hooks 1 ns next are.rising)

pub ordered_entries : (ns : List Node) (next d : ℕ) → AreNodes ns next
    → Ordered (entries_of (files ns next) d)
ordered_entries ns next d are =
    subst Ordered (sym (entries_shown ns next d are))
    (ordered_sorted (hooked_entries d ns) (distinct_in ns next d are))

-- hung in this directory, under its name
abbrev pub IsHung : ℕ → (ℕ → Hook) → Entry → Type 0
IsHung d hook e = hook e.number ≡ In d e.name

hung_so : (d : ℕ) (hook : ℕ → Hook) (ns : List Node)
    → AllByRecursion (λ (n : Node). hook n.number ≡ n.hook) ns
    → AllByRecursion (IsHung d hook) (hooked_entries d ns)
hung_so d hook [] own = tt
hung_so d hook (n ∷ ns) own = by n.hook refl (hung_so d hook ns own.1) where
  Hung : List Entry → Type 0
  Hung es = AllByRecursion (IsHung d hook) es

  by_test : (x : ℕ) (other : Name) → n.hook ≡ In x other → (x ≡ d) ⊎ (x ≢ d)
      → Hung (hooked_entries d ns)
      → Hung (behind_hooked n.number (hooked_entries d ns) (cond (eqb x d) (Some other) None))
  by_test x other e (inl same) later =
      rw (eq-eqb x d same) (own.0 ∙ e ∙ ap (λ (y : ℕ). In y other) same, later)
  by_test x other e (inr ne) later = rw (ne_eqb x d ne) later

  by : (h : Hook) → n.hook ≡ h → Hung (hooked_entries d ns) → Hung (hooked_entries d (n ∷ ns))
  by Root e later = rw e later
  by Removed e later = rw e later
  by (In x other) e later = rw e (by_test x other e (cases_eq x d) later)

pub all_hung : (ns : List Node) (next d : ℕ) → AreNodes ns next
    → AllByRecursion (IsHung d (hook_of ns)) (entries_of (files ns next) d)
all_hung ns next d are =
    subst (AllByRecursion (IsHung d (hook_of ns))) (sym (entries_shown ns next d are))
    (all_sorted (IsHung d (hook_of ns)) (hooked_entries d ns)
    (hung_so d (hook_of ns) ns (own_hooks 1 ns next are.rising)))

all_named : (ns : List Node) (next d : ℕ) → AreNodes ns next → (es : List Entry)
    → AllByRecursion (IsHung d (hook_of ns)) es → AllByRecursion (λ (e : Entry). e.name ≢ []) es
all_named ns next d are [] hung = tt
all_named ns next d are (e ∷ es) hung =
    ((are.named e.number d e.name hung.0).not_empty, all_named ns next d are es hung.1)

-- ---- the one after a name

nearest_entry : (ns : List Node) (next d : ℕ) (name : Name) → AreNodes ns next
    → option_map entry_with (nearest_node d name None ns)
    ≡ find (λ (e : Entry). is_before name e.name) (entries_of (files ns next) d)
nearest_entry ns next d name are =
    let distinct = distinct_in ns next d are in
    let es = hooked_entries d ns in
    nearest_is d name None ns ∙ sym (closest_sorted name None es distinct)
    ∙ closest_ordered name (sorted es) (ordered_sorted es distinct)
    ∙ sym (ap (find (λ (e : Entry). is_before name e.name)) (entries_shown ns next d are))

pub nearest_shown : (ns : List Node) (next d : ℕ) (name : Name) → AreNodes ns next
    → option_map (λ (n : Node). n.number) (nearest_node d name None ns)
    ≡ number_after (files ns next) d name
nearest_shown ns next d name are =
    number_with (nearest_node d name None ns) ∙ ap number_of (nearest_entry ns next d name are)

pub behind_shown : (ns : List Node) (next d i : ℕ) (name : Name) → AreNodes ns next
    → HasNameAtPlace (files ns next) d i name
    → number_after (files ns next) d name ≡ number_at_place (files ns next) d (i + 1)
behind_shown ns next d i name are named =
    let more : suc i ≡ i + 1 = omega arith in
    let es = entries_of (files ns next) d in
    ap number_of
    (found_behind name es i (ordered_entries ns next d are) named ∙ ap (slice_get es) more)

first_of : (ns : List Node) (next d : ℕ) → AreNodes ns next
    → find (λ (e : Entry). is_before [] e.name) (entries_of (files ns next) d)
    ≡ slice_get (entries_of (files ns next) d) 0
first_of ns next d are =
    let es = entries_of (files ns next) d in
    found_first es (all_named ns next d are es (all_hung ns next d are))

pub first_shown : (ns : List Node) (next d : ℕ) → AreNodes ns next
    → number_after (files ns next) d [] ≡ number_at_place (files ns next) d 0
first_shown ns next d are = ap number_of (first_of ns next d are)

-- ---- whether there is any

some_mapped : {A B : Type 0} (f : A → B) (o : Option A) → is_some (option_map f o) ≡ is_some o
some_mapped f None = refl
some_mapped f (Some a) = refl

some_first : (es : List Entry) → is_some (slice_get es 0) ≡ not (eqb (length es) 0)
some_first [] = refl
some_first (e ∷ es) = ap not (sym (ne_eqb (suc (length es)) 0 (λ e. absurd (omega (arith, e)))))

same_if_not : (a b : Bool) → not a ≡ not b → a ≡ b
same_if_not true true e = refl
same_if_not true false e = absurd cc
same_if_not false true e = absurd cc
same_if_not false false e = refl

copied_some : (o : Option (Bor Node)) → is_some o ≡ is_some (option_copied o)
copied_some None = refl
copied_some (Some n) = refl

pub none_nearest : (ns : List Node) (next d : ℕ) (o : Option (Bor Node)) (none : Bool)
    → AreNodes ns next
    → option_map kept_number (option_copied o) ≡ option_map kept_number (nearest_node d [] None ns)
    → is_some o ≡ not none
    → none ≡ eqb (length (entries_of (files ns next) d)) 0
none_nearest ns next d o none are is some =
    let es = entries_of (files ns next) d in
    same_if_not none (eqb (length es) 0)
    (sym some ∙ copied_some o ∙ sym (some_mapped kept_number (option_copied o)) ∙ ap is_some is
    ∙ ap is_some (nearest_shown ns next d [] are ∙ first_shown ns next d are)
    ∙ some_mapped (λ (e : Entry). e.number) (slice_get es 0) ∙ some_first es)

-- ---- the one at a place

none_behind : (es : List Entry) (i : ℕ)
    → slice_get es i ≡ None → slice_get es (suc i) ≡ None
none_behind [] i is = refl
none_behind (e ∷ []) zero is = refl
none_behind (e ∷ f ∷ es) zero is = absurd cc
none_behind (e ∷ es) (suc i) is = none_behind es i is

listed_entry : (ns : List Node) (next d i : ℕ) → AreNodes ns next
    → option_map entry_with (node_listed ns d i) ≡ slice_get (entries_of (files ns next) d) i
listed_entry ns next d zero are = nearest_entry ns next d [] are ∙ first_of ns next d are
listed_entry ns next d (suc i) are = by (node_listed ns d i) (listed_entry ns next d i are) where
  es : List Entry
  es = entries_of (files ns next) d

  by : (o : Option Node) → option_map entry_with o ≡ slice_get es i
      → option_map entry_with (next_node ns d o) ≡ slice_get es (suc i)
  by None is = sym (none_behind es i (sym is))
  by (Some n) is =
      let name = name_of_hook n.hook in
      nearest_entry ns next d name are
      ∙ found_behind name es i (ordered_entries ns next d are)
      (sym (ap (option_map (λ (e : Entry). e.name)) is))

pub listed_shown : (ns : List Node) (next d i : ℕ) → AreNodes ns next
    → option_map (λ (n : Node). n.number) (node_listed ns d i)
    ≡ number_at_place (files ns next) d i
listed_shown ns next d i are =
    number_with (node_listed ns d i) ∙ ap number_of (listed_entry ns next d i are)

listed_more : (ns : List Node) (d i more : ℕ)
    → node_listed ns d i ≡ None → node_listed ns d (more + i) ≡ None
listed_more ns d i zero none =
    let same : i ≡ zero + i = omega arith in
    subst (λ (k : ℕ). node_listed ns d k ≡ None) same none
listed_more ns d i (suc more) none =
    let same : suc (more + i) ≡ suc more + i = omega arith in
    subst (λ (k : ℕ). node_listed ns d k ≡ None) same
    (ap (next_node ns d) (listed_more ns d i more none))

-- after the last one there is none
pub none_listed : (ns : List Node) (d i place : ℕ) → i ≤ place
    → node_listed ns d i ≡ None → node_listed ns d place ≡ None
none_listed ns d i place le none =
    let same : (place - i) + i ≡ place = omega arith in
    subst (λ (k : ℕ). node_listed ns d k ≡ None) same (listed_more ns d i (place - i) none)

-- ---- how many there are

no_fewer : (es : List Entry) (n : ℕ) → slice_get es n ≡ None → length es ≤ n
no_fewer [] n is = omega arith
no_fewer (e ∷ es) zero is = absurd cc
no_fewer (e ∷ es) (suc n) is = omega (arith, no_fewer es n is)

none_past : (es : List Entry) (n : ℕ) → length es ≡ n → slice_get es n ≡ None
none_past [] n is = refl
none_past (e ∷ es) zero is = absurd (omega (arith, is))
none_past (e ∷ es) (suc n) is = none_past es n (omega (arith, is))

none_with : (o : Option Node) → option_map entry_with o ≡ None → o ≡ None
none_with None is = refl
none_with (Some n) is = absurd cc

pub count_shown : (ns : List Node) (next d count : ℕ) → AreNodes ns next
    → IsCountListed ns d count → count ≡ length (entries_of (files ns next) d)
count_shown ns next d count are counted = by (cases_lt (length es) count) where
  es : List Entry
  es = entries_of (files ns next) d

  most : length es ≤ count
  most =
      no_fewer es count
      (sym (listed_entry ns next d count are) ∙ ap (option_map entry_with) counted.no_more)

  by : (length es < count) ⊎ (count ≤ length es) → count ≡ length es
  by (inl lt) =
      let past = listed_entry ns next d (length es) are ∙ none_past es (length es) refl in
      absurd (counted.some (length es) lt (none_with (node_listed ns d (length es)) past))
  by (inr le) = omega (arith, le, most)

-- ---- the name of the one at a place

pub name_at_place : (ns : List Node) (next d i k : ℕ) → AreNodes ns next
    → number_at_place (files ns next) d i ≡ Some k
    → HasNameAtPlace (files ns next) d i (name_of_hook (hook_of ns k))
name_at_place ns next d i k are is = by (slice_get es i) refl is where
  es : List Entry
  es = entries_of (files ns next) d

  by : (o : Option Entry) → slice_get es i ≡ o → number_of o ≡ Some k
      → option_map (λ (e : Entry). e.name) o ≡ Some (name_of_hook (hook_of ns k))
  by None at is = absurd cc
  by (Some e) at is =
      let hung : hook_of ns e.number ≡ In d e.name =
      all_at (IsHung d (hook_of ns)) es i e (all_hung ns next d are) at in
      ap (λ (h : Hook). Some (name_of_hook h)) (sym hung)
      ∙ ap (λ (j : ℕ). Some (name_of_hook (hook_of ns j))) (same_Some e.number k is)
