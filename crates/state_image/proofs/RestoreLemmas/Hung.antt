-- One node more gets its path: what that leaves of directories that wait.
use Rattle.std.proofs.Common.{◌≡◌, ◌≢◌, ◌⊎◌, inl, inr, ℕ, zero, suc, ◌+◌, ◌<◌, Bool, true}
use Rattle.std.proofs.Common.{false, cond, eqb, List, [], ◌∷◌, ◌++◌, length, take, Option}
use Rattle.std.proofs.Common.{Some, None, refl, sym, ap, subst, ◌∙◌, arith}
use Rattle.std.specs.Prelude.{find, is_some, option_map, slice_get}
use Rattle.std.proofs.lemmas.Bool.{eqb-true, eqb-false}
use Rattle.std.proofs.lemmas.Option.{slice_get_within, same_Some}
use Rattle.file_tree.specs.rules.Files.{Files, Entry, is_before, inserted, hung}
use Rattle.file_tree.specs.rules.Files.{path_of, is_directory, entries_of}
use Rattle.file_tree.specs.rules.Changes.{path_at, CanHang}
use Rattle.file_tree.specs.laws.Rebuilding.{HasHung}
use Rattle.file_tree.proofs.OneEntryMore.{hanging_adds_an_entry}
use Rattle.state_image.specs.restoring.Named.{NamedNode}
use Rattle.state_image.specs.restoring.SavedNodes.{listed_node, AreAs, CanTake}
use Rattle.state_image.specs.restoring.Hanging.{directory_alone, HangsUpTo}
use Rattle.state_image.proofs.PushedItems.{front_more}
use Rattle.state_image.proofs.RestoreLemmas.SavedNodes.{one_directory, still_as}
use Rattle.machine_frame.proofs.TranslationLemmas.Placed.{get_last}

-- ---- places of lists

-- at a place of two lists is what one of them has
pub at_either : {X : Type 0} (xs ys : List X) (j : ℕ) (x : X) → slice_get (xs ++ ys) j ≡ Some x
    → (slice_get xs j ≡ Some x) ⊎ ((k : ℕ) × (j ≡ length xs + k) × (slice_get ys k ≡ Some x))
at_either [] ys j x e = inr (j, omega arith, e)
at_either (y ∷ xs) ys zero x e = inl e
at_either (y ∷ xs) ys (suc j) x e = further (at_either xs ys j x e) where
  further : (slice_get xs j ≡ Some x) ⊎ ((k : ℕ) × (j ≡ length xs + k) × (slice_get ys k ≡ Some x))
      → (slice_get xs j ≡ Some x)
      ⊎ ((k : ℕ) × (suc j ≡ suc (length xs) + k) × (slice_get ys k ≡ Some x))
  further (inl h) = inl h
  further (inr h) = inr (h.0, omega (arith, h.1), h.2)

pub at_front : {X : Type 0} (xs ys : List X) (j : ℕ) (x : X) → slice_get xs j ≡ Some x
    → slice_get (xs ++ ys) j ≡ Some x
at_front [] ys j x e = absurd cc
at_front (y ∷ xs) ys zero x e = e
at_front (y ∷ xs) ys (suc j) x e = at_front xs ys j x e

alone_at : (b : Bool) (k p e : ℕ) → slice_get (directory_alone b k) p ≡ Some e
    → (p ≡ 0) × (e ≡ k) × (b ≡ true)
alone_at true k zero e is = (refl, sym (same_Some k e is), refl)
alone_at true k (suc p) e is = absurd cc
alone_at false k p e is = absurd cc

-- ---- the last entry of a directory

none_found : {X Y : Type 0} (f : X → Y) (o : Option X) → option_map f o ≡ None → o ≡ None
none_found f None e = refl
none_found f (Some x) e = absurd cc

goes_last : (e : Entry) (es : List Entry)
    → find (λ (x : Entry). is_before e.name x.name) es ≡ None → inserted e es ≡ es ++ e ∷ []
goes_last e [] none = refl
goes_last e (f ∷ es) none = by (is_before e.name f.name) none (goes_last e es) where
  by : (b : Bool) → cond b (Some f) (find (λ (x : Entry). is_before e.name x.name) es) ≡ None
      → (find (λ (x : Entry). is_before e.name x.name) es ≡ None → inserted e es ≡ es ++ e ∷ [])
      → cond b (e ∷ f ∷ es) (f ∷ inserted e es) ≡ f ∷ (es ++ e ∷ [])
  by true none later = absurd cc
  by false none later = ap (λ (xs : List Entry). f ∷ xs) (later none)

-- ---- one node more

same_or_not : (j k : ℕ) → (j ≡ k) ⊎ (j ≢ k)
same_or_not j k = by (eqb j k) refl where
  by : (b : Bool) → eqb j k ≡ b → (j ≡ k) ⊎ (j ≢ k)
  by true is = inl (eqb-true j k is)
  by false is = inr (eqb-false j k is)

pub false_true : (b : Bool) → b ≡ false → b ≡ true → ⊥
false_true b f t = (let e : false ≡ true = sym f ∙ t in absurd cc)

-- a directory that waits can take what passes the test
pub can_hang : (ns : List NamedNode) (fs : Files) (ws : List ℕ) (at i d : ℕ) (e : Entry)
    → HangsUpTo ns fs ws at i → slice_get ws at ≡ Some d → CanTake fs d e
    → CanHang fs e.number d e.name
can_hang ns fs ws at i d e h here can = record {
  no_path = can.no_path;
  free = record {
    is_directory = (h.hung at d here).0;
    path = (h.hung at d here).1;
    free = can.free;
    named = can.named;
  };
}

module _ (ns : List NamedNode) (fs gs : Files) (ws : List ℕ) (at i d : ℕ) (e : Entry) (h : HangsUpTo
    ns fs ws at i) (here : slice_get ws at ≡ Some d) (told : slice_get (listed_node ns d) i
    ≡ Some e)
    (can : CanTake fs d e) (m : HasHung fs gs e.number d e.name) (b : Bool)
    (type_is : is_directory gs e.number ≡ b) where
  same : AreAs gs ns
  same = still_as fs gs ns m.nodes h.same

  same_types : (k : ℕ) → is_directory fs k ≡ is_directory gs k
  same_types k = one_directory fs gs ns h.same same k

  -- what had a path is another node
  another : (k : ℕ) → is_some (path_of fs k) ≡ true → k ≢ e.number
  another k path is = false_true (is_some (path_of fs k))
      (ap (λ (x : ℕ). is_some (path_of fs x)) is ∙ can.no_path) path

  paths : (k : ℕ) → k ≢ e.number → is_some (path_of gs k) ≡ is_some (path_of fs k)
  paths k ne = ap is_some (m.paths k ne)

  own_path : is_some (path_of gs e.number) ≡ true
  own_path = ap is_some m.path

  -- another directory that waits
  apart : (j x : ℕ) → slice_get ws j ≡ Some x → j ≢ at → x ≢ d
  apart j x is ne e = ne (h.once j at x is (here ∙ ap (λ (y : ℕ). Some y) (sym e)))

  done : (j x : ℕ) → slice_get (ws ++ directory_alone b e.number) j ≡ Some x → j < at
      → entries_of gs x ≡ listed_node ns x
  done j x is lt = by (at_either ws (directory_alone b e.number) j x is) where
    by : (slice_get ws j ≡ Some x) ⊎ ((k : ℕ) × (j ≡ length ws + k)
        × (slice_get (directory_alone b e.number) k ≡ Some x)) → entries_of gs x ≡ listed_node ns x
    by (inl old) = m.others x (apart j x old (λ e. absurd (omega (arith, e, lt))))
        ∙ h.done j x old lt
    by (inr new) =
        let inside = slice_get_within ws at d here in
        absurd (omega (arith, new.1, lt, inside))

  begun : (x : ℕ) → slice_get (ws ++ directory_alone b e.number) at ≡ Some x
      → entries_of gs x ≡ take (i + 1) (listed_node ns x)
  begun x is =
      let same : d ≡ x = same_Some d x
      (sym (at_front ws (directory_alone b e.number) at d here) ∙ is) in
      subst (λ (y : ℕ). entries_of gs y ≡ take (i + 1) (listed_node ns y)) same more
    where
      more : entries_of gs d ≡ take (i + 1) (listed_node ns d)
      more =
          m.here
          ∙ goes_last e (entries_of fs d)
          (none_found (λ (x : Entry). x.number)
          (find (λ (x : Entry). is_before e.name x.name) (entries_of fs d)) can.last)
          ∙ ap (λ (es : List Entry). es ++ e ∷ []) (h.begun d here)
          ∙ sym (front_more (listed_node ns d) i e told)

  still : (j x : ℕ) → slice_get (ws ++ directory_alone b e.number) j ≡ Some x → at < j
      → entries_of gs x ≡ []
  still j x is lt = by (at_either ws (directory_alone b e.number) j x is) where
    by : (slice_get ws j ≡ Some x) ⊎ ((k : ℕ) × (j ≡ length ws + k)
        × (slice_get (directory_alone b e.number) k ≡ Some x)) → entries_of gs x ≡ []
    by (inl old) = m.others x (apart j x old (λ e. absurd (omega (arith, e, lt))))
        ∙ h.still j x old lt
    by (inr new) = ap (entries_of gs) (alone_at b e.number new.0 x new.2).1 ∙ m.own

  hung_now : (j x : ℕ) → slice_get (ws ++ directory_alone b e.number) j ≡ Some x
      → (is_directory gs x ≡ true) × (is_some (path_of gs x) ≡ true)
  hung_now j x is = by (at_either ws (directory_alone b e.number) j x is) where
    by : (slice_get ws j ≡ Some x) ⊎ ((k : ℕ) × (j ≡ length ws + k)
        × (slice_get (directory_alone b e.number) k ≡ Some x))
        → (is_directory gs x ≡ true) × (is_some (path_of gs x) ≡ true)
    by (inl old) =
        let was = h.hung j x old in
        (sym (same_types x) ∙ was.0, paths x (another x was.1) ∙ was.1)
    by (inr new) =
        let is = alone_at b e.number new.0 x new.2 in (
          ap (is_directory gs) is.1 ∙ type_is ∙ is.2,
          ap (λ (y : ℕ). is_some (path_of gs y)) is.1
              ∙ own_path,
        )

  once : (j l x : ℕ) → slice_get (ws ++ directory_alone b e.number) j ≡ Some x
      → slice_get (ws ++ directory_alone b e.number) l ≡ Some x → j ≡ l
  once j l x p q = by (at_either ws (directory_alone b e.number) j x p)
      (at_either ws (directory_alone b e.number) l x q) where
        never : (y : ℕ) → slice_get ws y ≡ Some x → x ≡ e.number → j ≡ l
        never y old is = absurd (another x (h.hung y x old).1 is)

        by : (slice_get ws j ≡ Some x) ⊎ ((k : ℕ) × (j ≡ length ws + k)
            × (slice_get (directory_alone b e.number) k ≡ Some x))
            → (slice_get ws l ≡ Some x) ⊎ ((k : ℕ) × (l ≡ length ws + k)
            × (slice_get (directory_alone b e.number) k ≡ Some x)) → j ≡ l
        by (inl a) (inl c) = h.once j l x a c
        by (inl a) (inr c) = never j a (alone_at b e.number c.0 x c.2).1
        by (inr a) (inl c) = never l c (alone_at b e.number a.0 x a.2).1
        by (inr a) (inr c) =
            let z = (alone_at b e.number a.0 x a.2).0 in
            let y = (alone_at b e.number c.0 x c.2).0 in
            omega (arith, a.1, c.1, z, y)

  all : (x : ℕ) → is_directory gs x ≡ true → is_some (path_of gs x) ≡ true
      → (j : ℕ) × (slice_get (ws ++ directory_alone b e.number) j ≡ Some x)
  all x directory path = by (same_or_not x e.number) where
    new : (c : Bool) → b ≡ c → c ≡ true → x ≡ e.number
        → (j : ℕ) × (slice_get (ws ++ directory_alone b e.number) j ≡ Some x)
    new true is t same = (
      length ws,
      ap (λ (y : Bool). slice_get (ws ++ directory_alone y e.number) (length ws)) is
          ∙ get_last ws e.number ∙ ap (λ (y : ℕ). Some y) (sym same),
    )
    new false is t same = absurd cc

    by : (x ≡ e.number) ⊎ (x ≢ e.number)
        → (j : ℕ) × (slice_get (ws ++ directory_alone b e.number) j ≡ Some x)
    by (inl same) = new b refl (sym type_is ∙ sym (ap (is_directory gs) same) ∙ directory) same
    by (inr ne) =
        let old = h.all x (same_types x ∙ directory) (sym (paths x ne) ∙ path) in
        (old.0, at_front ws (directory_alone b e.number) old.0 x old.1)

  pub hung_more : HangsUpTo ns gs (ws ++ directory_alone b e.number) at (i + 1)
  hung_more = record {
    are = m.are;
    same = same;
    done = done;
    begun = begun;
    still = still;
    hung = hung_now;
    once = once;
    all = all;
  }

-- one entry more of the directory at a place of those that wait
pub entry_hung : (ns : List NamedNode) (fs gs : Files) (ws now : List ℕ) (at i d : ℕ) (e : Entry)
    → HangsUpTo ns fs ws at i → slice_get ws at ≡ Some d → slice_get (listed_node ns d) i ≡ Some e
    → CanTake fs d e → gs ≡ hung e.number (path_at fs d ++ e.name ∷ []) fs
    → now ≡ ws ++ directory_alone (is_directory gs e.number) e.number
    → HangsUpTo ns gs now at (i + 1) × (gs.next ≡ fs.next) × (slice_get now at ≡ Some d)
entry_hung ns fs gs ws now at i d e h here told can is more =
    let m : HasHung fs gs e.number d e.name =
    subst (λ (x : Files). HasHung fs x e.number d e.name) (sym is)
    (hanging_adds_an_entry fs e.number d e.name h.are can.there
    (can_hang ns fs ws at i d e h here can)) in (
      subst (λ (xs : List ℕ). HangsUpTo ns gs xs at (i + 1)) (sym more)
          (hung_more ns fs gs ws at i d e h here told can m (is_directory gs e.number) refl),
      sym m.nodes.next,
      ap (λ (xs : List ℕ). slice_get xs at) more
          ∙ at_front ws (directory_alone (is_directory gs e.number) e.number) at d here,
    )
