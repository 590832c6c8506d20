-- Nodes in a list of which one is changed, put after the others or taken out.
use Rattle.std.proofs.Common.{◌≡◌, ◌≢◌, ℕ, zero, suc, ◌+◌, ◌*◌, ◌<◌, ◌≤◌, Bool, true, false, cond}
use Rattle.std.proofs.Common.{eqb, List, [], ◌∷◌, ◌++◌, length, map, Option, Some, refl, sym, ap}
use Rattle.std.proofs.Common.{subst, ◌∙◌, arith}
use Rattle.std.specs.List.{AllByRecursion, sum_by}
use Rattle.std.proofs.lemmas.Bool.{eqb-true, eq-eqb, ne_eqb}
use Rattle.std.proofs.lemmas.List.Sums.{sum_by-cons}
use Rattle.file_tree.specs.declared.store.node.Node.{Node}
use Rattle.file_tree.specs.Store.Stored.{changed}
use Rattle.file_tree.specs.rules.Files.{FileNode, Content, Directory, File, bytes_of_content}
use Rattle.file_tree.specs.rules.Files.{changed_at, IsSmallContent}
use Rattle.file_tree.specs.declared.limits.TheConstants.{FILE_BYTES}
use Rattle.file_tree.specs.Links.{node_in, file_bytes_of, used_in, content_shown}
use Rattle.file_tree.specs.Links.{AreRisingNodes, IsPlace, IsNowhere}

-- ---- rising numbers

pub numbers_from : (least : ℕ) (ns : List Node) (next : ℕ) → AreRisingNodes least ns next
    → AllByRecursion (λ (n : Node). least ≤ n.number) ns
numbers_from least [] next h = tt
numbers_from least (n ∷ ns) next h = (h.0, lower ns (numbers_from (n.number + 1) ns next h.1)) where
  lower : (ms : List Node) → AllByRecursion (λ (m : Node). n.number + 1 ≤ m.number) ms
      → AllByRecursion (λ (m : Node). least ≤ m.number) ms
  lower [] g = tt
  lower (m ∷ ms) g = (omega (arith, g.0, h.0), lower ms g.1)

pub numbers_below : (least : ℕ) (ns : List Node) (next : ℕ) → AreRisingNodes least ns next
    → (least ≤ next) × AllByRecursion (λ (n : Node). n.number < next) ns
numbers_below least [] next h = (h, tt)
numbers_below least (n ∷ ns) next h = (let r = numbers_below (n.number + 1) ns next h.1 in
    (omega (arith, r.0, h.0), (omega (arith, r.0), r.1)))

pub nowhere_below : (k : ℕ) (ns : List Node) → AllByRecursion (λ (n : Node). n.number < k) ns
    → IsNowhere ns k
nowhere_below k [] h = tt
nowhere_below k (n ∷ ns) h = ((λ e. absurd (omega (arith, h.0, e))), nowhere_below k ns h.1)

pub nowhere_above : (k least : ℕ) (ns : List Node) → k < least
    → AllByRecursion (λ (n : Node). least ≤ n.number) ns → IsNowhere ns k
nowhere_above k least [] lt h = tt
nowhere_above k least (n ∷ ns) lt h =
    ((λ e. absurd (omega (arith, h.0, e, lt))), nowhere_above k least ns lt h.1)

-- ---- one node is changed, and keeps its number

module _ (f : Node → Node) (keeps : (n : Node) → (f n).number ≡ n.number) where
  pub in_changed_same : (ns : List Node) (k i : ℕ) (n : Node) → IsPlace ns k i
      → node_in ns k ≡ Some n → node_in (changed f i ns) k ≡ Some (f n)
  in_changed_same [] k i n h e = absurd h
  in_changed_same (m ∷ ns) k zero n h e =
      let some_is : m ≡ n =
      (let s : Some m
      ≡ Some n = sym (ap (λ (b : Bool). cond b (Some m) (node_in ns k)) (eq-eqb m.number k h))
      ∙ e in cc) in
      ap (λ (b : Bool). cond b (Some (f m)) (node_in ns k)) (eq-eqb (f m).number k (keeps m ∙ h))
      ∙ ap (λ (x : Node). Some (f x)) some_is
  in_changed_same (m ∷ ns) k (suc i) n h e =
      let later : node_in ns k ≡ Some n =
      sym (ap (λ (b : Bool). cond b (Some m) (node_in ns k)) (ne_eqb m.number k h.0)) ∙ e in
      ap (λ (b : Bool). cond b (Some m) (node_in (changed f i ns) k)) (ne_eqb m.number k h.0)
      ∙ in_changed_same ns k i n h.1 later

  pub in_changed_other : (ns : List Node) (k i j : ℕ) → IsPlace ns k i → j ≢ k
      → node_in (changed f i ns) j ≡ node_in ns j
  in_changed_other [] k i j h ne = refl
  in_changed_other (m ∷ ns) k zero j h ne =
      let other : (f m).number ≢ j = λ e. ne (sym e ∙ keeps m ∙ h) in
      let same : m.number ≢ j = λ e. ne (sym e ∙ h) in
      ap (λ (b : Bool). cond b (Some (f m)) (node_in ns j)) (ne_eqb (f m).number j other)
      ∙ sym (ap (λ (b : Bool). cond b (Some m) (node_in ns j)) (ne_eqb m.number j same))
  in_changed_other (m ∷ ns) k (suc i) j h ne =
      ap (λ (o : Option Node). cond (eqb m.number j) (Some m) o) (in_changed_other ns k i j h.1 ne)

  pub rising_changed : (least : ℕ) (ns : List Node) (i next : ℕ) → AreRisingNodes least ns next
      → AreRisingNodes least (changed f i ns) next
  rising_changed least [] i next h = h
  rising_changed least (m ∷ ns) zero next h = (
    omega (arith, h.0, keeps m),
    subst (λ (k : ℕ). AreRisingNodes (k + 1) ns next) (sym (keeps m)) h.1,
  )
  rising_changed least (m ∷ ns) (suc i) next h = (h.0, rising_changed (m.number + 1) ns i next h.1)

pub length-changed : (f : Node → Node) (ns : List Node) (i : ℕ)
    → length (changed f i ns) ≡ length ns
length-changed f [] i = refl
length-changed f (m ∷ ns) zero = refl
length-changed f (m ∷ ns) (suc i) = ap suc (length-changed f ns i)

pub all_changed : (P : Node → Type 0) (f : Node → Node) (ns : List Node) (k i : ℕ) (n : Node)
    → IsPlace ns k i → node_in ns k ≡ Some n → P (f n) → AllByRecursion P ns
    → AllByRecursion P (changed f i ns)
all_changed P f [] k i n h e p all = absurd h
all_changed P f (m ∷ ns) k zero n h e p all =
    let some_is : m ≡ n =
    (let s : Some m
    ≡ Some n = sym (ap (λ (b : Bool). cond b (Some m) (node_in ns k)) (eq-eqb m.number k h)) ∙ e
    in cc) in
    (subst (λ (x : Node). P (f x)) (sym some_is) p, all.1)
all_changed P f (m ∷ ns) k (suc i) n h e p all =
    let later : node_in ns k ≡ Some n =
    sym (ap (λ (b : Bool). cond b (Some m) (node_in ns k)) (ne_eqb m.number k h.0)) ∙ e in
    (all.0, all_changed P f ns k i n h.1 later p all.1)

pub all_in : (P : Node → Type 0) (ns : List Node) (k : ℕ) (n : Node) → node_in ns k ≡ Some n
    → AllByRecursion P ns → P n
all_in P [] k n e h = absurd cc
all_in P (m ∷ ns) k n e h = by_test (eqb m.number k) (λ later. all_in P ns k n later h.1) e where
  by_test : (b : Bool) → (node_in ns k ≡ Some n → P n) → cond b (Some m) (node_in ns k) ≡ Some n
      → P n
  by_test true later e = (let some_is : m ≡ n = cc in subst P some_is h.0)
  by_test false later e = later e

-- a sum over all nodes after a change of one
pub sum_changed : (size : Node → ℕ) (f : Node → Node) (ns : List Node) (k i : ℕ) (n : Node)
    → IsPlace ns k i → node_in ns k ≡ Some n
    → sum_by size (changed f i ns) + size n ≡ sum_by size ns + size (f n)
sum_changed size f [] k i n h e = absurd h
sum_changed size f (m ∷ ns) k zero n h e =
    let some_is : m ≡ n =
    (let s : Some m
    ≡ Some n = sym (ap (λ (b : Bool). cond b (Some m) (node_in ns k)) (eq-eqb m.number k h)) ∙ e
    in cc) in
    omega (
      arith,
      sum_by-cons size (f m) ns,
      sum_by-cons size m ns,
      ap size some_is,
      ap (λ (x : Node). size (f x)) some_is,
    )
sum_changed size f (m ∷ ns) k (suc i) n h e =
    let later : node_in ns k ≡ Some n =
    sym (ap (λ (b : Bool). cond b (Some m) (node_in ns k)) (ne_eqb m.number k h.0)) ∙ e in
    omega (
      arith,
      sum_by-cons size m (changed f i ns),
      sum_by-cons size m ns,
      sum_changed size f ns k i n h.1 later,
    )

-- it is no less than what one node adds
pub sum_holds : (size : Node → ℕ) (ns : List Node) (k : ℕ) (n : Node) → node_in ns k ≡ Some n
    → size n ≤ sum_by size ns
sum_holds size [] k n e = absurd cc
sum_holds size (m ∷ ns) k n e =
    by_test (eqb m.number k) (λ later. sum_holds size ns k n later) e where
      by_test : (b : Bool) → (node_in ns k ≡ Some n → size n ≤ sum_by size ns)
          → cond b (Some m) (node_in ns k) ≡ Some n → size n ≤ sum_by size (m ∷ ns)
      by_test true later e =
          (let some_is : m ≡ n = cc in omega (arith, sum_by-cons size m ns, ap size some_is))
      by_test false later e = omega (arith, sum_by-cons size m ns, later e)

-- how many bytes there are
abbrev pub size_of : Node → ℕ
size_of n = length (file_bytes_of n)

pub used_changed : (f : Node → Node) (ns : List Node) (k i : ℕ) (n : Node) → IsPlace ns k i
    → node_in ns k ≡ Some n → used_in (changed f i ns) + length (file_bytes_of n)
    ≡ used_in ns + length (file_bytes_of (f n))
used_changed f ns k i n h e = sum_changed size_of f ns k i n h e

pub used_holds : (ns : List Node) (k : ℕ) (n : Node) → node_in ns k ≡ Some n
    → length (file_bytes_of n) ≤ used_in ns
used_holds ns k n e = sum_holds size_of ns k n e

pub small_bytes : (n : Node) → IsSmallContent (content_shown n.content)
    → length (file_bytes_of n) ≤ FILE_BYTES
small_bytes n h = of_content (content_shown n.content) h where
  of_content : (c : Content) → IsSmallContent c → length (bytes_of_content c) ≤ FILE_BYTES
  of_content Directory h = omega arith
  of_content (File bytes) h = h.0

pub used_small : (ns : List Node)
    → AllByRecursion (λ (n : Node). IsSmallContent (content_shown n.content)) ns
    → used_in ns ≤ length ns * FILE_BYTES
used_small [] h = omega arith
used_small (m ∷ ns) h = omega (
  arith,
  sum_by-cons (λ (x : Node). length (file_bytes_of x)) m ns,
  small_bytes m h.0,
  used_small ns h.1,
)

-- ---- what is shown of nodes of which one is changed

-- each node shows what G makes of what it showed, the changed one too
pub shown_changed : (S after : Node → FileNode) (G : FileNode → FileNode) (f : Node
    → Node) (least : ℕ) (ns : List Node) (next k i : ℕ) (n : Node) → IsPlace ns k i
    → node_in ns k ≡ Some n → AreRisingNodes least ns next
    → ((m : Node) → m.number ≢ k → after m ≡ G (S m)) → after (f n) ≡ G (S n)
    → map after (changed f i ns) ≡ map G (map S ns)
shown_changed S after G f least [] next k i n h e rising others one = absurd h
shown_changed S after G f least (m ∷ ns) next k zero n h e rising others one =
    let some_is : m ≡ n =
    (let s : Some m
    ≡ Some n = sym (ap (λ (b : Bool). cond b (Some m) (node_in ns k)) (eq-eqb m.number k h)) ∙ e
    in cc) in
    let mine : after (f m) ≡ G (S m) = subst (λ (x : Node). after (f x) ≡ G (S x)) (sym some_is) one
    in
    ap (λ (x : FileNode). x ∷ map after ns) mine
    ∙ ap (λ (xs : List FileNode). G (S m)
    ∷ xs) (rest ns (nowhere_above k (m.number + 1) ns (omega (
      arith,
      h,
    )) (numbers_from (m.number + 1) ns next rising.1))) where
      rest : (ms : List Node) → IsNowhere ms k → map after ms ≡ map G (map S ms)
      rest [] h = refl
      rest (x ∷ ms) h = ap (λ (y : FileNode). y ∷ map after ms) (others x h.0)
          ∙ ap (λ (ys : List FileNode). G (S x) ∷ ys) (rest ms h.1)
shown_changed S after G f least (m ∷ ns) next k (suc i) n h e rising others one =
    let later : node_in ns k ≡ Some n =
    sym (ap (λ (b : Bool). cond b (Some m) (node_in ns k)) (ne_eqb m.number k h.0)) ∙ e in
    ap (λ (x : FileNode). x ∷ map after (changed f i ns)) (others m h.0)
    ∙ ap (λ (xs : List FileNode). G (S m)
    ∷ xs) (shown_changed S after G f (m.number + 1) ns next k i n h.1 later rising.1 others one)

pub number_in : (ns : List Node) (k : ℕ) (n : Node) → node_in ns k ≡ Some n → n.number ≡ k
number_in [] k n e = absurd cc
number_in (m ∷ ns) k n e = by_test (eqb m.number k) refl (number_in ns k n) e where
  some_is : (x y : Node) → Some x ≡ Some y → x ≡ y
  some_is x y e = cc

  by_test : (b : Bool) → eqb m.number k ≡ b → (node_in ns k ≡ Some n → n.number ≡ k)
      → cond b (Some m) (node_in ns k) ≡ Some n → n.number ≡ k
  by_test true is later e = ap (λ (x : Node). x.number) (sym (some_is m n e))
      ∙ eqb-true m.number k is
  by_test false is later e = later e

-- the same, where only the changed one shows another thing
pub shown_changed_one : (S after : Node → FileNode) (g : FileNode → FileNode) (f : Node
    → Node) (least : ℕ) (ns : List Node) (next k i : ℕ) (n : Node) → IsPlace ns k i
    → node_in ns k ≡ Some n → AreRisingNodes least ns next
    → ((m : Node) → (S m).number ≡ m.number) → ((m : Node) → m.number ≢ k → after m ≡ S m)
    → after (f n) ≡ g (S n) → map after (changed f i ns) ≡ map (changed_at k g) (map S ns)
shown_changed_one S after g f least ns next k i n h e rising numbers others one =
    shown_changed S after (changed_at k g) f least ns next k i n h e rising
    (λ m ne. others m ne
    ∙ sym (ap (λ (b : Bool). cond b (g (S m)) (S m)) (ne_eqb (S m).number k (λ e.
    ne (sym (numbers m) ∙ e)))))
    (one ∙ sym (ap (λ (b : Bool). cond b (g (S n)) (S n)) (eq-eqb (S n).number k (numbers n
    ∙ number_in ns k n e))))

-- no node is changed
pub none_changed : (S : Node → FileNode) (g : FileNode → FileNode) (ns : List Node) (k : ℕ)
    → ((m : Node) → (S m).number ≡ m.number) → IsNowhere ns k
    → map (changed_at k g) (map S ns) ≡ map S ns
none_changed S g [] k numbers h = refl
none_changed S g (m ∷ ns) k numbers h =
    ap (λ (b : Bool). cond b (g (S m)) (S m) ∷ map (changed_at k g) (map S ns))
    (ne_eqb (S m).number k (λ e. h.0 (sym (numbers m) ∙ e)))
    ∙ ap (λ (xs : List FileNode). S m ∷ xs) (none_changed S g ns k numbers h.1)

-- ---- a node behind the others

pub in_pushed_there : (ns : List Node) (n : Node) (k : ℕ) (m : Node) → node_in ns k ≡ Some m
    → node_in (ns ++ n ∷ []) k ≡ Some m
in_pushed_there [] n k m e = absurd cc
in_pushed_there (x ∷ ns) n k m e = by_test (eqb x.number k) (in_pushed_there ns n k m) e where
  by_test : (b : Bool) → (node_in ns k ≡ Some m → node_in (ns ++ n ∷ []) k ≡ Some m)
      → cond b (Some x) (node_in ns k) ≡ Some m
      → cond b (Some x) (node_in (ns ++ n ∷ []) k) ≡ Some m
  by_test true later e = e
  by_test false later e = later e

pub in_pushed_other : (ns : List Node) (n : Node) (k : ℕ) → k ≢ n.number
    → node_in (ns ++ n ∷ []) k ≡ node_in ns k
in_pushed_other [] n k ne = rw (ne_eqb n.number k (λ e. ne (sym e))) refl
in_pushed_other (m ∷ ns) n k ne =
    ap (λ (o : Option Node). cond (eqb m.number k) (Some m) o) (in_pushed_other ns n k ne)

pub in_pushed_same : (ns : List Node) (n : Node) → IsNowhere ns n.number
    → node_in (ns ++ n ∷ []) n.number ≡ Some n
in_pushed_same [] n h = rw (eq-eqb n.number n.number refl) refl
in_pushed_same (m ∷ ns) n h = rw (ne_eqb m.number n.number h.0) (in_pushed_same ns n h.1)

pub all_pushed : (P : Node → Type 0) (ns : List Node) (n : Node) → AllByRecursion P ns → P n
    → AllByRecursion P (ns ++ n ∷ [])
all_pushed P [] n h p = (p, tt)
all_pushed P (m ∷ ns) n h p = (h.0, all_pushed P ns n h.1 p)

pub rising_pushed : (least : ℕ) (ns : List Node) (n : Node) (next : ℕ) → n.number ≡ next
    → AreRisingNodes least ns next → AreRisingNodes least (ns ++ n ∷ []) (next + 1)
rising_pushed least [] n next e h = (omega (arith, h, e), omega (arith, e))
rising_pushed least (m ∷ ns) n next e h = (h.0, rising_pushed (m.number + 1) ns n next e h.1)
