-- The names of a path that a guest gives, and where a walk along them ends.
use Rattle.std.proofs.Common.{◌≡◌, ◌≢◌, ◌⊎◌, inl, inr, ℕ, suc, ◌+◌, ◌<◌, Bool, true, false}
use Rattle.std.proofs.Common.{eqb, List, [], ◌∷◌, ◌++◌, length, take, drop, filter, get_or, Option}
use Rattle.std.proofs.Common.{Some, None, refl, sym, ap, subst, ◌∙◌, arith, append_assoc}
use Rattle.std.specs.Prelude.{◌==◌, not, ◌||◌, if◌then◌else◌, nat_le, Result}
use Rattle.std.specs.List.{AllByRecursion, list_all, list_any}
use Rattle.std.specs.Str.{IsUtf8, is_utf8}
use Rattle.std.proofs.lemmas.Str.{IsUtf8-take, IsUtf8-drop, IsUtf8-from_is_utf8}
use Rattle.std.proofs.lemmas.Str.{IsCharBoundary-before_ascii, IsCharBoundary-after_ascii}
use Rattle.std.proofs.lemmas.Bool.{eqb-true, leb-true, eq-eqb, and_parts, not-true}
use Rattle.std.proofs.lemmas.List.{append-nil, length-append}
use Rattle.wasi_abi.specs.declared.errno.Errno.TheVariants.{Ilseq, Inval, Nametoolong, Noent}
use Rattle.wasi_abi.specs.declared.errno.Errno.TheVariants.{Notcapable, Notdir}
use Rattle.wasi_abi.specs.rules.Answers.{AreBytes}
use Rattle.guest_memory.specs.rules.Bytes.{IsByte, part}
use Rattle.guest_memory.proofs.Lists.{all_take, all_drop, all_with}
use Rattle.file_tree.specs.rules.Files.{Name, Files, slash, dot, child, is_directory, is_same_name}
use Rattle.file_tree.specs.rules.Files.{IsNodeName}
use Rattle.file_tree.specs.declared.limits.TheConstants.{PATH_BYTES, NAME_BYTES}
use Rattle.file_tree.proofs.SameNames.{name_or_not}
use Rattle.wasi_calls_rules.specs.WasiStates.{Target, Stream, Node, WasiState}
use Rattle.wasi_calls_rules.specs.Checks.{Bytes, Halt, Refuses, check_or, names_directory}
use Rattle.wasi_calls_rules.specs.Checks.{node_named, in_memory, lent}
use Rattle.wasi_calls_rules.specs.Paths.{onto_first, parts_of, is_dropped, is_back, begins_with}
use Rattle.wasi_calls_rules.specs.Paths.{names_of, formed, WalkEnd, Self, Leaf, directory_entered}
use Rattle.wasi_calls_rules.specs.Paths.{backed, onward, walk}
use Rattle.wasi_calls_rules.proofs.Steps.{HoldsAfter, refused, done_with, step, next, next_is}
use Rattle.wasi_calls_rules.proofs.Steps.{passed, by_test}
use Rattle.wasi_calls_rules.proofs.WasiStateChanges.{Reached}

-- ---- parts between slashes

abbrev InPart : (ℕ → Type 0) → ℕ → Type 0
InPart P b = P b × (b ≢ slash)

first_holds : (Q : ℕ → Type 0) (b : ℕ) (parts : List Name) → Q b
    → AllByRecursion (AllByRecursion Q) parts
    → AllByRecursion (AllByRecursion Q) (onto_first b parts)
first_holds Q b [] q h = ((q, tt), tt)
first_holds Q b (x ∷ parts) q h = ((q, h.0), h.1)

-- what holds of each byte holds of each byte of the parts, and none is a slash
parts_hold : (P : ℕ → Type 0) (bytes : Bytes) → AllByRecursion P bytes
    → AllByRecursion (AllByRecursion (InPart P)) (parts_of bytes)
parts_hold P [] h = (tt, tt)
parts_hold P (b ∷ bytes) h = by_slash (eqb b slash) refl (parts_hold P bytes h.1) where
  by_slash : (t : Bool) → eqb b slash ≡ t
      → AllByRecursion (AllByRecursion (InPart P)) (parts_of bytes)
      → AllByRecursion (AllByRecursion (InPart P))
      (if t then [] ∷ parts_of bytes else onto_first b (parts_of bytes))
  by_slash true is rest = (tt, rest)
  by_slash false is rest =
      first_holds (InPart P) b (parts_of bytes)
      (h.0, λ e. absurd (let t = eq-eqb b slash e in cc)) rest

-- the parts with these bytes before the first
abbrev behind_bytes : Bytes → List Name → List Name
behind_bytes front [] = front ∷ []
behind_bytes front (x ∷ parts) = (front ++ x) ∷ parts

at_end : (front : Bytes) (b : ℕ) (bytes : Bytes)
    → get_or (front ++ b ∷ bytes) (length front) 0 ≡ b
at_end [] b bytes = refl
at_end (x ∷ front) b bytes = at_end front b bytes

take_front : (front bytes : Bytes) → take (length front) (front ++ bytes) ≡ front
take_front [] bytes = refl
take_front (x ∷ front) bytes = ap (λ (xs : Bytes). x ∷ xs) (take_front front bytes)

drop_front : (front : Bytes) (b : ℕ) (bytes : Bytes)
    → drop (suc (length front)) (front ++ b ∷ bytes) ≡ bytes
drop_front [] b bytes = refl
drop_front (x ∷ front) b bytes = drop_front front b bytes

-- a text before a slash, and after it
halves : (front : Bytes) (bytes : Bytes) → IsUtf8 (front ++ slash ∷ bytes)
    → IsUtf8 front × IsUtf8 bytes
halves front bytes text =
    let all = front ++ slash ∷ bytes in
    let count = length-append front (slash ∷ bytes) in
    let size : length front < length all = omega (arith, count) in
    let here : get_or all (length front) 0 ≡ slash = at_end front slash bytes in
    let ascii : get_or all (length front) 0 < 128 = omega (arith, here) in
    let next_place : length front + 1 ≡ suc (length front) = omega arith in (
      subst IsUtf8 (take_front front (slash ∷ bytes))
          (IsUtf8-take all (length front) text
          (IsCharBoundary-before_ascii all (length front) size ascii)),
      subst IsUtf8 (ap (λ (n : ℕ). drop n all) next_place ∙ drop_front front slash bytes)
          (IsUtf8-drop all (length front + 1) text
          (IsCharBoundary-after_ascii all (length front) text size ascii)),
    )

without_front : (parts : List Name) → AllByRecursion IsUtf8 (behind_bytes [] parts)
    → AllByRecursion IsUtf8 parts
without_front [] h = tt
without_front (x ∷ parts) h = h

-- the parts of a text are texts
parts_utf8 : (front bytes : Bytes) → IsUtf8 (front ++ bytes)
    → AllByRecursion IsUtf8 (behind_bytes front (parts_of bytes))
parts_utf8 front [] text = (text, tt)
parts_utf8 front (b ∷ bytes) text =
    by_slash (eqb b slash) refl (parts_utf8 [] bytes) (parts_utf8 (front ++ b ∷ []) bytes) where
      longer : (parts : List Name)
          → AllByRecursion IsUtf8 (behind_bytes (front ++ b ∷ []) parts)
          → AllByRecursion IsUtf8 (behind_bytes front (onto_first b parts))
      longer [] h = h
      longer (x ∷ parts) h = (subst IsUtf8 (append_assoc front (b ∷ []) x) h.0, h.1)

      by_slash : (t : Bool) → eqb b slash ≡ t
          → (IsUtf8 bytes → AllByRecursion IsUtf8 (behind_bytes [] (parts_of bytes)))
          → (IsUtf8 ((front ++ b ∷ []) ++ bytes)
          → AllByRecursion IsUtf8 (behind_bytes (front ++ b ∷ []) (parts_of bytes)))
          → AllByRecursion IsUtf8
          (behind_bytes front (if t then [] ∷ parts_of bytes else onto_first b (parts_of bytes)))
      by_slash true is behind on =
          let cut = halves front bytes
          (subst (λ (c : ℕ). IsUtf8 (front ++ c ∷ bytes)) (eqb-true b slash is) text) in (
            subst IsUtf8 (sym (append-nil front)) cut.0,
            without_front (parts_of bytes) (behind cut.1),
          )
      by_slash false is behind on =
          longer (parts_of bytes) (on (subst IsUtf8 (sym (append_assoc front (b ∷ []) bytes)) text))

-- ---- names

-- what holds of a name that a path of these bytes has
pub record IsGiven (bytes : Bytes) (name : Name) : Type 0 where
  pub node_name : is_back name ≡ false → IsNodeName name
  pub are_bytes : AreBytes bytes → AreBytes name

no_zeros : (bytes : Bytes) → list_any (λ b. b == 0) bytes ≡ false
    → AllByRecursion (λ (b : ℕ). b ≢ 0) bytes
no_zeros [] e = tt
no_zeros (b ∷ bytes) e = by_zero (b == 0) refl e (no_zeros bytes) where
  by_zero : (t : Bool) → (b == 0) ≡ t → (t || list_any (λ b. b == 0) bytes) ≡ false
      → (list_any (λ b. b == 0) bytes ≡ false → AllByRecursion (λ (b : ℕ). b ≢ 0) bytes)
      → AllByRecursion (λ (b : ℕ). b ≢ 0) (b ∷ bytes)
  by_zero true is e rest = absurd (cc)
  by_zero false is e rest = ((λ z. absurd (let t = eq-eqb b 0 z in cc)), rest e)

not_name : (name other : Name) → is_same_name name other ≡ false → name ≢ other
not_name name other e = either (name_or_not name other) where
  either : ((is_same_name name other ≡ true) × (name ≡ other))
      ⊎ ((is_same_name name other ≡ false) × (name ≢ other)) → name ≢ other
  either (inl same) = absurd (let t : true ≡ false = sym same.0 ∙ e in cc)
  either (inr apart) = apart.1

neither : (a b : Bool) → not (a || b) ≡ true → (a ≡ false) × (b ≡ false)
neither true b e = absurd (cc)
neither false true e = absurd (cc)
neither false false e = (refl, refl)

-- each that a test leaves passes it
all_left : {X : Type 0} (P : X → Type 0) (test : X → Bool) (xs : List X) → AllByRecursion P xs
    → AllByRecursion (λ (x : X). P x × (test x ≡ true)) (filter test xs)
all_left P test [] h = tt
all_left P test (x ∷ xs) h = by_case (test x) refl (all_left P test xs h.1) where
  by_case : (t : Bool) → test x ≡ t
      → AllByRecursion (λ (x : _). P x × (test x ≡ true)) (filter test xs)
      → AllByRecursion (λ (x : _). P x × (test x ≡ true))
      (if t then x ∷ filter test xs else filter test xs)
  by_case true is rest = ((h.0, is), rest)
  by_case false is rest = rest

all_tested : {X : Type 0} (test : X → Bool) (xs : List X) → list_all test xs ≡ true
    → AllByRecursion (λ (x : X). test x ≡ true) xs
all_tested test [] e = tt
all_tested test (x ∷ xs) e =
    let parts = and_parts (test x) (list_all test xs) e in
    (parts.0, all_tested test xs parts.1)

-- what is known of each part
record IsPart (bytes : Bytes) (name : Name) : Type 0 where
  no_zero : AllByRecursion (InPart (λ (b : ℕ). b ≢ 0)) name
  text : IsUtf8 name
  are_bytes : AreBytes bytes → AreBytes name

bytes_alone : (name : Name) → AllByRecursion (InPart IsByte) name → AreBytes name
bytes_alone [] h = tt
bytes_alone (b ∷ name) h = (h.0.0, bytes_alone name h.1)

parts_are_bytes : (bytes : Bytes) (parts : List Name)
    → (AreBytes bytes → AllByRecursion (AllByRecursion (InPart IsByte)) parts)
    → AllByRecursion (λ (name : Name). AreBytes bytes → AreBytes name) parts
parts_are_bytes bytes [] h = tt
parts_are_bytes bytes (x ∷ parts) h =
    ((λ k. bytes_alone x (h k).0), parts_are_bytes bytes parts (λ k. (h k).1))

parts_are : (bytes : Bytes) → IsUtf8 bytes → AllByRecursion (λ (b : ℕ). b ≢ 0) bytes
    → AllByRecursion (IsPart bytes) (parts_of bytes)
parts_are bytes text no_zero =
    let parts = parts_of bytes in
    let texts = without_front parts (parts_utf8 [] bytes text) in
    let some = parts_hold (λ (b : ℕ). b ≢ 0) bytes no_zero in
    let same = parts_are_bytes bytes parts (parts_hold IsByte bytes) in
    all_with (λ (x : Name). (AllByRecursion (InPart (λ (b : ℕ). b ≢ 0)) x) × IsUtf8 x)
    (λ (x : Name). AreBytes bytes → AreBytes x) (IsPart bytes) parts
    (λ x p q. record { no_zero = p.0; text = p.1; are_bytes = q })
    (all_with (AllByRecursion (InPart (λ (b : ℕ). b ≢ 0))) IsUtf8
    (λ (x : Name). (AllByRecursion (InPart (λ (b : ℕ). b ≢ 0)) x) × IsUtf8 x) parts
    (λ x p q. (p, q)) some texts)
    same

is_given : (bytes : Bytes) (name : Name) → IsPart bytes name → not (is_dropped name) ≡ true
    → nat_le (length name) NAME_BYTES ≡ true → IsGiven bytes name
is_given bytes name known kept short =
    let other = neither (is_same_name name []) (is_same_name name (dot ∷ [])) kept in
    record {
      node_name = λ no_back. record {
        not_empty = not_name name [] other.0;
        short = leb-true (length name) NAME_BYTES short;
        bytes = known.no_zero;
        utf8 = known.text;
        not_self = not_name name (dot ∷ []) other.1;
        not_parent = not_name name (dot ∷ dot ∷ []) no_back;
      };
      are_bytes = known.are_bytes;
    }

pub names_are_given : (bytes : Bytes)
    → HoldsAfter (AllByRecursion (IsGiven bytes)) (formed bytes)
names_are_given bytes =
    let long = λ (name : Name). nat_le (length name) NAME_BYTES in
    let zeros = list_any (λ b. b == 0) bytes in
    next (check_or (not (length bytes == 0)) Noent) _ (λ _.
    next (check_or (nat_le (length bytes) PATH_BYTES) Nametoolong) _ (λ _.
    next_is (check_or (is_utf8 bytes) Ilseq) _ (λ u text.
    next_is (check_or (not (list_any (λ b. b == 0) bytes)) Inval) _ (λ v none.
    next (check_or (not (begins_with bytes slash)) Notcapable) _ (λ _.
    next_is (check_or (list_all (λ (name : Name). nat_le (length name) NAME_BYTES)
    (names_of bytes)) Nametoolong) _
    (λ w short.
    let parts = parts_are bytes (IsUtf8-from_is_utf8 bytes (passed (is_utf8 bytes) Ilseq u text))
    (no_zeros bytes (not-true zeros (passed (not zeros) Inval v none))) in
    done_with (AllByRecursion (IsGiven bytes)) (names_of bytes)
    (all_with (λ (x : Name). IsPart bytes x × (not (is_dropped x) ≡ true))
    (λ (x : Name). long x ≡ true) (IsGiven bytes) (names_of bytes)
    (λ x p q. is_given bytes x p.0 p.1 q)
    (all_left (IsPart bytes) (λ name. not (is_dropped name)) (parts_of bytes) parts)
    (all_tested long (names_of bytes)
    (passed (list_all long (names_of bytes)) Nametoolong w short)))))))))

-- ---- the walk

-- a walk ends at a directory, or at a name in one
abbrev pub EndsWell : Files → Bytes → WalkEnd → Type 0
EndsWell fs bytes (Self k) = is_directory fs k ≡ true
EndsWell fs bytes (Leaf d name) =
    (is_directory fs d ≡ true) × IsNodeName name × (AreBytes bytes → AreBytes name)

module _ (fs : Files) (bytes : Bytes) where
  abbrev IsIn : ℕ → Type 0
  IsIn k = is_directory fs k ≡ true

  entered : (o : Option ℕ) → HoldsAfter IsIn (directory_entered fs o)
  entered None = refused IsIn (Refuses Noent)
  entered (Some k) =
      by_test (is_directory fs k) _ _ (λ e. done_with IsIn k e) (λ _. refused IsIn (Refuses Notdir))

  backed_ends : (go : ℕ → List ℕ → Result WalkEnd Halt) (behind : List ℕ)
      → AllByRecursion IsIn behind
      → ((d : ℕ) (others : List ℕ) → IsIn d → AllByRecursion IsIn others
      → HoldsAfter (EndsWell fs bytes) (go d others))
      → HoldsAfter (EndsWell fs bytes) (backed go behind)
  backed_ends go [] h f = refused _ (Refuses Notcapable)
  backed_ends go (d ∷ behind) h f = f d behind h.0 h.1

  onward_ends : (d : ℕ) (name : Name) (names : List Name) (go : ℕ → Result WalkEnd Halt)
      → IsIn d → IsGiven bytes name → is_back name ≡ false
      → ((k : ℕ) → IsIn k → HoldsAfter (EndsWell fs bytes) (go k))
      → HoldsAfter (EndsWell fs bytes) (onward fs d name names go)
  onward_ends d name [] go dir given no_back f =
      done_with (EndsWell fs bytes) (Leaf d name)
      (dir, given.node_name no_back, given.are_bytes)
  onward_ends d name (other ∷ names) go dir given no_back f =
      step IsIn (directory_entered fs (child fs d name)) go (entered (child fs d name)) f

  walk_ends : (d : ℕ) (behind : List ℕ) (names : List Name) → IsIn d → AllByRecursion IsIn behind
      → AllByRecursion (IsGiven bytes) names
      → HoldsAfter (EndsWell fs bytes) (walk fs d behind names)
  walk_ends d behind [] dir dirs given = done_with (EndsWell fs bytes) (Self d) dir
  walk_ends d behind (name ∷ names) dir dirs given =
      by_test (is_back name) _ _
      (λ _. backed_ends _ behind dirs
      (λ b others in_b in_others. walk_ends b others names in_b in_others given.1))
      (λ no_back. onward_ends d name names _ dir given.0 no_back
      (λ k in_k. walk_ends k (d ∷ behind) names in_k (dir, dirs) given.1))

-- ---- where a path leads

lent_bytes : (m : Bytes) (from len : ℕ)
    → HoldsAfter (λ (bytes : Bytes). AreBytes m → AreBytes bytes) (lent m from len)
lent_bytes m from len =
    next (in_memory m from len) _ (λ _.
    done_with (λ (bytes : Bytes). AreBytes m → AreBytes bytes) (part m from len)
    (λ k. all_take IsByte len (drop from m) (all_drop IsByte from m k)))

base_directory : (h : WasiState) (t : Target) → names_directory h t ≡ true
    → is_directory h.files (node_named t) ≡ true
base_directory h (Stream s) e = absurd (cc)
base_directory h (Node k) e = e

more_bytes : (fs : Files) (m bytes : Bytes) (place : WalkEnd) → (AreBytes m → AreBytes bytes)
    → EndsWell fs bytes place → EndsWell fs m place
more_bytes fs m bytes (Self k) f e = e
more_bytes fs m bytes (Leaf d name) f e = (e.0, e.1, λ k. e.2 (f k))

pub ends_well : (m : Bytes) (h : WasiState) (place : WalkEnd) → Reached m h place
    → EndsWell h.files m place
ends_well m h place r =
    let given = (names_are_given r.bytes).holds r.names r.form in
    let dir = base_directory h r.base.target r.directory in
    let ends = (walk_ends h.files r.bytes (node_named r.base.target) [] r.names dir tt given).holds
    place r.led in
    more_bytes h.files m r.bytes place ((lent_bytes m r.from r.len).holds r.bytes r.read) ends
