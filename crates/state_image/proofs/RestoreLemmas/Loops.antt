-- Items that are kept one after the other, and what a fault leaves.
use Rattle.std.proofs.Common.{◌≡◌, ℕ, ◌+◌, ◌-◌, ◌<◌, List, [], ◌∷◌, ◌++◌, map, Option, Some}
use Rattle.std.proofs.Common.{None, ap, ◌∙◌}
use Rattle.std.specs.Prelude.{Result, Ok, Err, IfOk}
use Rattle.std.specs.Result.{IsErrAnd}
use Rattle.std.proofs.lemmas.List.{map-append}
use Rattle.wasm_syntax.specs.laws.ReadingItems.{items_at}
use Rattle.wasm_syntax.proofs.Grammar.Loops.{with_front, items_go_on, items_fail}
use Rattle.state_image.specs.declared.restoring.fault.RestoreFault.{RestoreFault}
use Rattle.state_image.specs.declared.restoring.fault.RestoreFault.TheVariants as fault
use Rattle.state_image.specs.restoring.Parts.{RestoresField}

-- one item more was read and kept
pub one_kept : {X Y : Type 0} (shown : X → Y) (item_at : List ℕ → Option (Y × List ℕ))
    (kept now : List X) (count i : ℕ) (bytes after : List ℕ) (total : Option (List Y × List ℕ))
    (x : X) → i < count → item_at bytes ≡ Some (shown x, after)
    → with_front (map shown kept) (items_at item_at (count - i) bytes) ≡ total
    → now ≡ kept ++ x ∷ []
    → with_front (map shown now) (items_at item_at (count - (i + 1)) after) ≡ total
one_kept {X} {Y} shown item_at kept now count i bytes after total x lt read so_far is =
    ap (λ (ys : List Y). with_front ys (items_at item_at (count - (i + 1)) after))
    (ap (map shown) is ∙ map-append shown kept (x ∷ []))
    ∙ items_go_on item_at (map shown kept) count i bytes total (shown x) after lt read so_far

-- where an item is refused, so are all of them
pub all_refused : {X Y A : Type 0} (shown : X → Y) (view : A → List Y) (item_at : List ℕ
    → Option (Y × List ℕ)) (front : List Y) (count i : ℕ) (bytes after last : List ℕ)
    (total : Option (List Y × List ℕ)) (f : RestoreFault) (r : Result A RestoreFault) → i < count
    → RestoresField shown (Err f) after (item_at bytes)
    → with_front front (items_at item_at (count - i) bytes) ≡ total
    → IsErrAnd r (λ y. y ≡ f) → RestoresField view r last total
all_refused shown view item_at front count i bytes after last total f (Ok a) lt read so_far is =
    absurd is
all_refused shown view item_at front count i bytes after last total fault.NotAnImage (Err
    fault.NotAnImage) lt read so_far is = items_fail item_at front count i bytes total lt read
    so_far
all_refused shown view item_at front count i bytes after last total f (Err fault.Memory) lt read
    so_far is = tt
all_refused shown view item_at front count i bytes after last total fault.Memory (Err
    fault.NotAnImage) lt read so_far is = absurd cc

-- ---- on to the tree

pub none_by : {X Y : Type 0} (shown : X → Y) (f : RestoreFault) (rest : List ℕ)
    (read : Option (Y × List ℕ)) → RestoresField shown (Err f) rest read
    → ◌≡◌ {A = Result X RestoreFault} (Err f) (Err fault.NotAnImage) → read ≡ None
none_by shown fault.NotAnImage rest read h e = h
none_by shown fault.Memory rest read h e = absurd cc

pub if_ok : {X E : Type 0} (P Q : X → Type 0) (r : Result X E) → IfOk r P
    → ((x : X) → P x → Q x) → IfOk r Q
if_ok P Q (Ok x) h each = each x h
if_ok P Q (Err f) h each = tt
