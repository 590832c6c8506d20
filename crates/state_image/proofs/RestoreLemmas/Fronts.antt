-- What is at the front of bytes is what functions on lists read there.
use Rattle.std.proofs.Common.{◌≡◌, ℕ, zero, suc, ◌<◌, ◌^◌, Bool, true, false, cond, eqb, List, []}
use Rattle.std.proofs.Common.{◌∷◌, ◌++◌, length, Option, Some, None, refl, sym, ap, subst, ◌∙◌}
use Rattle.std.proofs.Common.{append_assoc, map, arith}
use Rattle.std.specs.List.{AllByRecursion, flat_map}
use Rattle.std.proofs.lemmas.Bool.{eqb-true}
use Rattle.std.proofs.lemmas.List.{append-nil}
use Rattle.guest_memory.specs.rules.Bytes.{number_of, bytes_of}
use Rattle.guest_memory.proofs.ByteLemmas.{length-bytes_of, number_of-bytes_of, bytes_of-number_of}
use Rattle.wasm_syntax.specs.laws.ReadingItems.{◌>>=◌, part_at, items_at}
use Rattle.wasm_syntax.proofs.Grammar.Exact.{found, bind_some, parts, carry}
use Rattle.wasm_syntax.proofs.Grammar.Vectors.{Reads-part_at}
use Rattle.wasi_abi.specs.rules.Layouts.{u16_bytes, u32_bytes, u64_bytes}
use Rattle.wasi_abi.specs.rules.Answers.{AreBytes}
use Rattle.file_tree.specs.rules.Files.{Files, Entry, IsFiles}
use Rattle.state_image.specs.rules.ProcessImage.{items_bytes, entry_bytes, files_bytes}
use Rattle.state_image.specs.rules.Ranges.{IsIn, AreFew, IsEntryIn}
use Rattle.state_image.specs.rules.Fronts.{ContentFront, EntryCount, FileBytes, NodeFront}
use Rattle.state_image.specs.rules.Fronts.{content_front_bytes, IsContentFrontIn, front_bytes}
use Rattle.state_image.specs.rules.Fronts.{IsFrontIn}
use Rattle.state_image.specs.restoring.ListReaders.{integer_at, text_at}
use Rattle.state_image.specs.restoring.ListReaders.{content_front_at, node_front_at, entry_at}
use Rattle.state_image.specs.restoring.Named.{Held, Entries, Bytes, NamedNode, named}
use Rattle.state_image.specs.restoring.Named.{AreNamedNodes, held_bytes, named_bytes}
use Rattle.state_image.specs.restoring.SavedNodes.{IsSavedFiles}
use Rattle.state_image.specs.restoring.Parts.{held_at, whole_node_at, wholes_at}
use Rattle.state_image.proofs.Named.{IsHeldIn, IsNamedIn, files_named}
use Rattle.state_image.proofs.FilesWithin.{files_within}
use Rattle.state_image.proofs.Among.{entry_with}

-- what is in front is read, and nothing else
pub record ReadsFront (X : Type 0) (P : X → Type 0) (spell : X → List ℕ) (item_at : List ℕ
    → Option (X × List ℕ)) : Type 0 where
  pub front : (x : X) (rest : List ℕ) → P x → item_at (spell x ++ rest) ≡ Some (x, rest)
  pub is : (bytes : List ℕ) (x : X) (rest : List ℕ) → AreBytes bytes
      → item_at bytes ≡ Some (x, rest) → (bytes ≡ spell x ++ rest) × AreBytes rest

pub all_front : (xs ys : List ℕ) → AreBytes (xs ++ ys) → AreBytes xs
all_front [] ys h = tt
all_front (x ∷ xs) ys h = (h.0, all_front xs ys h.1)

all_back : (xs ys : List ℕ) → AreBytes (xs ++ ys) → AreBytes ys
all_back [] ys h = h
all_back (x ∷ xs) ys h = all_back xs ys h.1

-- ---- numbers and texts

pub integer_front : (n : ℕ) → ReadsFront ℕ (IsIn n) (bytes_of n) (integer_at n)
unfolding integer_at
integer_front n = record { front = front; is = is } where
  front : (x : ℕ) (rest : List ℕ) → IsIn n x → integer_at n (bytes_of n x ++ rest) ≡ Some (x, rest)
  front x rest p = rw
      ((Reads-part_at n).complete (bytes_of n x ++ rest) (bytes_of n x) rest
      (refl, length-bytes_of n x)) (ap (λ (y : ℕ). found y rest) (number_of-bytes_of n x p))

  is : (bytes : List ℕ) (x : ℕ) (rest : List ℕ) → AreBytes bytes
      → integer_at n bytes ≡ Some (x, rest) → (bytes ≡ bytes_of n x ++ rest) × AreBytes rest
  is bytes x rest low e =
      let p = bind_some (part_at n bytes) _ _ e in
      let cut = (Reads-part_at n).sound bytes p.0.0 p.0.1 p.1 in
      let both = parts (number_of p.0.0) x p.0.1 rest p.2 in
      let all : AreBytes (p.0.0 ++ p.0.1) = subst AreBytes cut.0 low in
      let spelled : p.0.0 ≡ bytes_of n x =
      sym (bytes_of-number_of p.0.0 (all_front p.0.0 p.0.1 all))
      ∙ ap (λ (k : ℕ). bytes_of k (number_of p.0.0)) cut.1 ∙ ap (bytes_of n) both.0 in (
        cut.0 ∙ ap (λ (a : List ℕ). a ++ p.0.1) spelled
            ∙ ap (λ (r : List ℕ). bytes_of n x ++ r) both.1,
        subst AreBytes both.1 (all_back p.0.0 p.0.1 all),
      )

abbrev long_text : ℕ → List ℕ → List ℕ
long_text n t = bytes_of n (length t) ++ t

pub text_front : (n : ℕ)
    → ReadsFront (List ℕ) (λ (t : List ℕ). IsIn n (length t)) (long_text n) (text_at n)
unfolding text_at
text_front n = record { front = front; is = is } where
  front : (t rest : List ℕ) → IsIn n (length t) → text_at n (long_text n t ++ rest) ≡ Some (t, rest)
  front t rest p = rw (
    append_assoc (bytes_of n (length t)) t rest,
    (integer_front n).front (length t) (t ++ rest) p,
  )
      ((Reads-part_at (length t)).complete (t ++ rest) t rest (refl, refl))

  is : (bytes t rest : List ℕ) → AreBytes bytes → text_at n bytes ≡ Some (t, rest)
      → (bytes ≡ long_text n t ++ rest) × AreBytes rest
  is bytes t rest low e =
      let l = bind_some (integer_at n bytes) _ _ e in
      let first = (integer_front n).is bytes l.0.0 l.0.1 low l.1 in
      let cut = (Reads-part_at l.0.0).sound l.0.1 t rest l.2 in (
        first.0 ∙ ap (λ (k : ℕ). bytes_of n k ++ l.0.1) (sym cut.1)
            ∙ ap (λ (r : List ℕ). bytes_of n (length t) ++ r) cut.0
            ∙ sym (append_assoc (bytes_of n (length t)) t rest),
        all_back t rest (subst AreBytes cut.0 first.1),
      )

-- ---- entries

entry_split : (e : Entry) (rest : List ℕ)
    → entry_bytes e ++ rest ≡ long_text 2 e.name ++ (u64_bytes e.number ++ rest)
entry_split e rest =
    append_assoc (u16_bytes (length e.name)) (e.name ++ u64_bytes e.number) rest
    ∙ ap (λ (r : List ℕ). u16_bytes (length e.name) ++ r)
    (append_assoc e.name (u64_bytes e.number) rest)
    ∙ sym (append_assoc (u16_bytes (length e.name)) e.name (u64_bytes e.number ++ rest))

pub entry_front : ReadsFront Entry IsEntryIn entry_bytes entry_at
unfolding entry_at
entry_front = record { front = front; is = is } where
  front : (e : Entry) (rest : List ℕ) → IsEntryIn e
      → entry_at (entry_bytes e ++ rest) ≡ Some (e, rest)
  front e rest p = rw (
    entry_split e rest,
    (text_front 2).front e.name (u64_bytes e.number ++ rest) p.name,
    (integer_front 8).front e.number rest p.number,
  ) refl

  is : (bytes : List ℕ) (e : Entry) (rest : List ℕ) → AreBytes bytes
      → entry_at bytes ≡ Some (e, rest) → (bytes ≡ entry_bytes e ++ rest) × AreBytes rest
  is bytes e rest low h =
      let name = bind_some (text_at 2 bytes) _ _ h in
      let number = bind_some (integer_at 8 name.0.1) _ _ name.2 in
      let first = (text_front 2).is bytes name.0.0 name.0.1 low name.1 in
      let second = (integer_front 8).is name.0.1 number.0.0 number.0.1 first.1 number.1 in
      carry (λ (x : Entry) (r : List ℕ). (bytes ≡ entry_bytes x ++ r) × AreBytes r)
      (entry_with name.0.0 number.0.0) e number.0.1 rest number.2 (
        first.0 ∙ ap (λ (r : List ℕ). long_text 2 name.0.0 ++ r) second.0
            ∙ sym (entry_split (entry_with name.0.0 number.0.0) number.0.1),
        second.1,
      )

-- ---- so many items

module _ (X : Type 0) (P : X → Type 0) (spell : X → List ℕ) (item_at : List ℕ
    → Option (X × List ℕ)) (reads : ReadsFront X P spell item_at) where
  pub items_front : (count : ℕ) (xs : List X) (rest : List ℕ) → length xs ≡ count
      → AllByRecursion P xs → items_at item_at count (flat_map spell xs ++ rest) ≡ Some (xs, rest)
  unfolding items_at
  items_front zero [] rest e h = refl
  items_front zero (x ∷ xs) rest e h = absurd (omega (arith, e))
  items_front (suc n) [] rest e h = absurd (omega (arith, e))
  items_front (suc n) (x ∷ xs) rest e h = rw (
    append_assoc (spell x) (flat_map spell xs) rest,
    reads.front x (flat_map spell xs ++ rest) h.0,
    items_front n xs rest (omega (arith, e)) h.1,
  ) refl

  -- so many that are there
  pub record AreItems (count : ℕ) (bytes : List ℕ) (xs : List X) (rest : List ℕ) : Type 0 where
    pub is : bytes ≡ flat_map spell xs ++ rest
    pub many : length xs ≡ count
    pub low : AreBytes rest

  pub items_are : (count : ℕ) (bytes : List ℕ) (xs : List X) (rest : List ℕ) → AreBytes bytes
      → items_at item_at count bytes ≡ Some (xs, rest) → AreItems count bytes xs rest
  unfolding items_at
  items_are zero bytes xs rest low e =
      carry (AreItems zero bytes) [] xs bytes rest e
      (record { is = refl; many = refl; low = low })
  items_are (suc n) bytes xs rest low e =
      let first = bind_some (item_at bytes) _ _ e in
      let others = bind_some (items_at item_at n first.0.1) _ _ first.2 in
      let a = reads.is bytes first.0.0 first.0.1 low first.1 in
      let b = items_are n first.0.1 others.0.0 others.0.1 a.1 others.1 in
      carry (AreItems (suc n) bytes) (first.0.0 ∷ others.0.0) xs others.0.1 rest others.2
      (record {
        is = a.0 ∙ ap (λ (r : List ℕ). spell first.0.0 ++ r) b.is
            ∙ sym (append_assoc (spell first.0.0) (flat_map spell others.0.0) others.0.1);
        many = ap suc b.many;
        low = b.low;
      })

-- ---- fronts of nodes

abbrev pub counted : ℕ × List ℕ → Option (ContentFront × List ℕ)
counted n = Some (EntryCount n.0, n.1)

abbrev pub filed : List ℕ × List ℕ → Option (ContentFront × List ℕ)
filed file = Some (FileBytes file.0, file.1)

content_is : (bytes : List ℕ) (c : ContentFront) (rest : List ℕ) → AreBytes bytes
    → content_front_at bytes ≡ Some (c, rest) → (bytes ≡ content_front_bytes c ++ rest)
    × AreBytes rest
unfolding content_front_at
content_is [] c rest low e = absurd cc
content_is (k ∷ bytes) c rest low e = by (eqb k 3) refl (eqb k 4) refl e where
  by : (b : Bool) → eqb k 3 ≡ b → (d : Bool) → eqb k 4 ≡ d
      → cond b (integer_at 4 bytes >>= counted)
      (cond d (text_at 8 bytes >>= filed) None) ≡ Some (c, rest)
      → (k ∷ bytes ≡ content_front_bytes c ++ rest) × AreBytes rest
  by true p d q e =
      let n = bind_some (integer_at 4 bytes) counted _ e in
      let r = (integer_front 4).is bytes n.0.0 n.0.1 low.1 n.1 in
      carry (λ (x : ContentFront) (s : List ℕ).
      (k ∷ bytes ≡ content_front_bytes x ++ s) × AreBytes s) (EntryCount n.0.0) c n.0.1 rest n.2
      (ap (λ (h : ℕ). h ∷ bytes) (eqb-true k 3 p) ∙ ap (λ (s : List ℕ). 3 ∷ s) r.0, r.1)
  by false p true q e =
      let file = bind_some (text_at 8 bytes) filed _ e in
      let r = (text_front 8).is bytes file.0.0 file.0.1 low.1 file.1 in
      carry (λ (x : ContentFront) (s : List ℕ).
      (k ∷ bytes ≡ content_front_bytes x ++ s) × AreBytes s) (FileBytes file.0.0) c file.0.1 rest
      file.2
      (ap (λ (h : ℕ). h ∷ bytes) (eqb-true k 4 q) ∙ ap (λ (s : List ℕ). 4 ∷ s) r.0, r.1)
  by false p false q e = absurd cc

pub content_front : ReadsFront ContentFront IsContentFrontIn content_front_bytes content_front_at
unfolding content_front_at
content_front = record { front = front; is = content_is } where
  front : (c : ContentFront) (rest : List ℕ) → IsContentFrontIn c
      → content_front_at (content_front_bytes c ++ rest) ≡ Some (c, rest)
  front (EntryCount count) rest p = rw ((integer_front 4).front count rest p) refl
  front (FileBytes file) rest p = rw ((text_front 8).front file rest p) refl

pub node_front : ReadsFront NodeFront IsFrontIn front_bytes node_front_at
unfolding node_front_at
node_front = record { front = front; is = is } where
  front : (f : NodeFront) (rest : List ℕ) → IsFrontIn f
      → node_front_at (front_bytes f ++ rest) ≡ Some (f, rest)
  front f rest p = rw (
    append_assoc (u64_bytes f.number) (content_front_bytes f.content) rest,
    (integer_front 8).front f.number (content_front_bytes f.content ++ rest) p.number,
    content_front.front f.content rest p.content,
  ) refl

  is : (bytes : List ℕ) (f : NodeFront) (rest : List ℕ) → AreBytes bytes
      → node_front_at bytes ≡ Some (f, rest) → (bytes ≡ front_bytes f ++ rest) × AreBytes rest
  is bytes f rest low e =
      let number = bind_some (integer_at 8 bytes) _ _ e in
      let content = bind_some (content_front_at number.0.1) _ _ number.2 in
      let a = (integer_front 8).is bytes number.0.0 number.0.1 low number.1 in
      let b = content_front.is number.0.1 content.0.0 content.0.1 a.1 content.1 in
      carry (λ (x : NodeFront) (s : List ℕ). (bytes ≡ front_bytes x ++ s) × AreBytes s)
      (record { number = number.0.0; content = content.0.0 }) f content.0.1 rest content.2 (
        a.0 ∙ ap (λ (r : List ℕ). u64_bytes number.0.0 ++ r) b.0
            ∙ sym (append_assoc (u64_bytes number.0.0) (content_front_bytes content.0.0)
            content.0.1),
        b.1,
      )

-- ---- whole nodes

abbrev content_of_held : Held → ContentFront
content_of_held (Entries es) = EntryCount (length es)
content_of_held (Bytes bytes) = FileBytes bytes

abbrev behind : Held → List ℕ
behind (Entries es) = flat_map entry_bytes es
behind (Bytes bytes) = []

abbrev front_of : NamedNode → NodeFront
front_of n = record { number = n.number; content = content_of_held n.held }

held_split : (h : Held) → held_bytes h ≡ content_front_bytes (content_of_held h) ++ behind h
held_split (Entries es) = refl
held_split (Bytes bytes) = ap (λ (xs : List ℕ). 4 ∷ xs) (sym (append-nil (long_text 8 bytes)))

whole_split : (n : NamedNode) (rest : List ℕ)
    → named_bytes n ++ rest ≡ front_bytes (front_of n) ++ (behind n.held ++ rest)
whole_split n rest =
    ap (λ (xs : List ℕ). (u64_bytes n.number ++ xs) ++ rest) (held_split n.held)
    ∙ ap (λ (xs : List ℕ). xs ++ rest)
    (sym (append_assoc (u64_bytes n.number) (content_front_bytes (content_of_held n.held))
    (behind n.held)))
    ∙ append_assoc (front_bytes (front_of n)) (behind n.held) rest

held_front : (h : Held) (rest : List ℕ) → IsHeldIn h
    → held_at (content_of_held h) (behind h ++ rest) ≡ Some (h, rest)
unfolding held_at
held_front (Entries es) rest p = rw
    (items_front Entry IsEntryIn entry_bytes entry_at entry_front (length es) es rest refl p.each)
    refl
held_front (Bytes bytes) rest p = refl

-- what is held, after its front
record IsHeldAt (c : ContentFront) (bytes : List ℕ) (h : Held) (rest : List ℕ) : Type 0 where
  front : content_of_held h ≡ c
  is : bytes ≡ behind h ++ rest
  low : AreBytes rest

held_is : (c : ContentFront) (bytes : List ℕ) (h : Held) (rest : List ℕ) → AreBytes bytes
    → held_at c bytes ≡ Some (h, rest) → IsHeldAt c bytes h rest
unfolding held_at
held_is (EntryCount count) bytes h rest low e =
    let es = bind_some (items_at entry_at count bytes) _ _ e in
    let a = items_are Entry IsEntryIn entry_bytes entry_at entry_front count bytes es.0.0 es.0.1
    low es.1 in
    carry (IsHeldAt (EntryCount count) bytes) (Entries es.0.0) h es.0.1 rest es.2
    (record { front = ap (λ (n : ℕ). EntryCount n) a.many; is = a.is; low = a.low })
held_is (FileBytes file) bytes h rest low e =
    carry (IsHeldAt (FileBytes file) bytes) (Bytes file) h bytes rest e
    (record { front = refl; is = refl; low = low })

front_in : (h : Held) → IsHeldIn h → IsContentFrontIn (content_of_held h)
front_in (Entries es) p = p.few
front_in (Bytes bytes) p = p

whole_front : ReadsFront NamedNode IsNamedIn named_bytes whole_node_at
unfolding whole_node_at
whole_front = record { front = front; is = is } where
  front : (n : NamedNode) (rest : List ℕ) → IsNamedIn n
      → whole_node_at (named_bytes n ++ rest) ≡ Some (n, rest)
  front n rest p = rw (
    whole_split n rest,
    node_front.front (front_of n) (behind n.held ++ rest)
        (record { number = p.number; content = front_in n.held p.held }),
    held_front n.held rest p.held,
  ) refl

  is : (bytes : List ℕ) (n : NamedNode) (rest : List ℕ) → AreBytes bytes
      → whole_node_at bytes ≡ Some (n, rest) → (bytes ≡ named_bytes n ++ rest) × AreBytes rest
  is bytes n rest low e =
      let f = bind_some (node_front_at bytes) _ _ e in
      let h = bind_some (held_at f.0.0.content f.0.1) _ _ f.2 in
      let a = node_front.is bytes f.0.0 f.0.1 low f.1 in
      let b = held_is f.0.0.content f.0.1 h.0.0 h.0.1 a.1 h.1 in
      let x : NamedNode = record { number = f.0.0.number; held = h.0.0 } in
      carry (λ (m : NamedNode) (s : List ℕ). (bytes ≡ named_bytes m ++ s) × AreBytes s) x n h.0.1
      rest h.2 (
        a.0
            ∙ ap (λ (c : ContentFront). (u64_bytes f.0.0.number ++ content_front_bytes c) ++ f.0.1)
            (sym b.front)
            ∙ ap (λ (r : List ℕ). front_bytes (front_of x) ++ r) b.is
            ∙ sym (whole_split x h.0.1),
        b.low,
      )

pub wholes_front : ReadsFront (List NamedNode) (AreFew NamedNode IsNamedIn) (items_bytes
    named_bytes) wholes_at
unfolding wholes_at
wholes_front = record { front = front; is = is } where
  front : (ns : List NamedNode) (rest : List ℕ) → AreFew NamedNode IsNamedIn ns
      → wholes_at (items_bytes named_bytes ns ++ rest) ≡ Some (ns, rest)
  front ns rest p = rw (
    append_assoc (u32_bytes (length ns)) (flat_map named_bytes ns) rest,
    (integer_front 4).front (length ns) (flat_map named_bytes ns ++ rest) p.few,
  )
      (items_front NamedNode IsNamedIn named_bytes whole_node_at whole_front
      (length ns) ns rest refl
      p.each)

  is : (bytes : List ℕ) (ns : List NamedNode) (rest : List ℕ) → AreBytes bytes
      → wholes_at bytes ≡ Some (ns, rest)
      → (bytes ≡ items_bytes named_bytes ns ++ rest) × AreBytes rest
  is bytes ns rest low e =
      let count = bind_some (integer_at 4 bytes) _ _ e in
      let a = (integer_front 4).is bytes count.0.0 count.0.1 low count.1 in
      let b = items_are NamedNode IsNamedIn named_bytes whole_node_at whole_front count.0.0
      count.0.1 ns
      rest a.1 count.2 in (
        a.0 ∙ ap (λ (r : List ℕ). u32_bytes count.0.0 ++ r) b.is
            ∙ ap (λ (n : ℕ). u32_bytes n ++ (flat_map named_bytes ns ++ rest)) (sym b.many)
            ∙ sym (append_assoc (u32_bytes (length ns)) (flat_map named_bytes ns) rest),
        b.low,
      )

-- ---- files

pub files_made : (fs : Files) (next : ℕ) (ns : List NamedNode) (bytes mid rest : List ℕ)
    → AreBytes bytes → integer_at 8 bytes ≡ Some (next, mid) → wholes_at mid ≡ Some (ns, rest)
    → AreNamedNodes fs next ns → bytes ≡ files_bytes fs ++ rest
files_made fs next ns bytes mid rest low number nodes told =
    let a = (integer_front 8).is bytes next mid low number in
    let b = wholes_front.is mid ns rest a.1 nodes in
    a.0
    ∙ ap (λ (r : List ℕ). u64_bytes next ++ r) b.0
    ∙ sym (append_assoc (u64_bytes next) (items_bytes named_bytes ns) rest)
    ∙ ap (λ (n : ℕ). (u64_bytes n ++ items_bytes named_bytes ns) ++ rest) (sym told.next)
    ∙ ap (λ (ms : List NamedNode). (u64_bytes fs.next ++ items_bytes named_bytes ms) ++ rest)
    (sym told.nodes)
    ∙ sym (files_named fs rest)

-- what is read where these files are in front
pub record ReadsFiles (fs : Files) (bytes rest : List ℕ) : Type 0 where
  pub mid : List ℕ
  pub number : integer_at 8 bytes ≡ Some (fs.next, mid)
  pub nodes : wholes_at mid ≡ Some (map (named fs) fs.nodes, rest)

pub files_read : (fs : Files) (bytes rest : List ℕ) → IsFiles fs → IsIn 8 fs.next
    → bytes ≡ files_bytes fs ++ rest → ReadsFiles fs bytes rest
files_read fs bytes rest are next is =
    let within = files_within fs are next in
    let ns = map (named fs) fs.nodes in
    record {
      mid = items_bytes named_bytes ns ++ rest;
      number = ap (integer_at 8) (is ∙ files_named fs rest
          ∙ append_assoc (u64_bytes fs.next) (items_bytes named_bytes ns) rest)
          ∙ (integer_front 8).front fs.next (items_bytes named_bytes ns ++ rest) next;
      nodes = wholes_front.front ns rest within.nodes;
    }

-- ---- what is refused

-- no number is there
pub no_number : (bytes : List ℕ) → integer_at 8 bytes ≡ None → (fs : Files) (rest : List ℕ)
    → IsFiles fs → fs.next < 2 ^ 64 → bytes ≡ files_bytes fs ++ rest → ⊥
no_number bytes none fs rest are next is =
    let r = files_read fs bytes rest are next is in
    never (fs.next, r.mid) (sym none ∙ r.number)
  where
    never : (x : ℕ × List ℕ) → None ≡ Some x → ⊥
    never x e = absurd cc

-- no nodes are after it
pub no_nodes : (bytes mid : List ℕ) (number : ℕ) → integer_at 8 bytes ≡ Some (number, mid)
    → wholes_at mid ≡ None → (fs : Files) (rest : List ℕ) → IsFiles fs → fs.next < 2 ^ 64
    → bytes ≡ files_bytes fs ++ rest → ⊥
no_nodes bytes mid number there none fs rest are next is =
    let r = files_read fs bytes rest are next is in
    let same = parts number fs.next mid r.mid (sym there ∙ r.number) in
    never (map (named fs) fs.nodes, rest) (sym none ∙ ap wholes_at same.1 ∙ r.nodes)
  where
    never : (x : List NamedNode × List ℕ) → None ≡ Some x → ⊥
    never x e = absurd cc

-- these are there
pub files_told : (bytes mid behind : List ℕ) (number : ℕ) (ns : List NamedNode)
    → integer_at 8 bytes ≡ Some (number, mid) → wholes_at mid ≡ Some (ns, behind)
    → (fs : Files) (rest : List ℕ) → IsFiles fs → fs.next < 2 ^ 64
    → bytes ≡ files_bytes fs ++ rest → IsSavedFiles fs number ns
files_told bytes mid behind number ns there nodes fs rest are next is =
    let r = files_read fs bytes rest are next is in
    let same = parts number fs.next mid r.mid (sym there ∙ r.number) in
    let all = parts (map (named fs) fs.nodes) ns rest behind
    (sym r.nodes ∙ ap wholes_at (sym same.1) ∙ nodes) in
    record {
      are = are;
      within = next;
      told = record { next = sym same.0; nodes = all.0 };
    }
