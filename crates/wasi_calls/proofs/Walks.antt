-- A walk that has come some way.
use Rattle.std.proofs.Common.{◌≡◌, ◌≢◌, ℕ, ◌+◌, ◌++◌, true, false, List, [], ◌∷◌, length}
use Rattle.std.proofs.Common.{refl, sym, ap, subst, ◌∙◌, arith}
use Rattle.std.specs.Prelude.{Some, Result, Ok, IsTrue}
use Rattle.std.proofs.lemmas.List.{length-append}
use Rattle.file_tree.specs.rules.Files.{Name, Path, Files, IsFiles, path_of, child, is_directory}
use Rattle.file_tree.proofs.Seen.{some_path}
use Rattle.wasi_calls_rules.specs.Checks.{Halt, ◌>>=◌}
use Rattle.wasi_calls_rules.specs.Paths.{WalkEnd, is_back, directory_entered, onward, walk}
use Rattle.wasi_calls_rules.proofs.NodesAfter.{child_path, child_parent}
use Rattle.wasi_calls.specs.Places.{AreWalked}

-- the directories after one, the last one first: each is a child of the one before
abbrev pub AreAbove : Files → ℕ → ℕ → List ℕ → Type 0
AreAbove fs start d [] = d ≡ start
AreAbove fs start d (above ∷ behind) =
    (d ≢ start) × ((name : Name) × (child fs above name ≡ Some d))
    × (is_directory fs above ≡ true) × AreAbove fs start above behind

-- the names that are left lead from here to where all of them lead from the start
pub record Leads (fs : Files) (start : ℕ) (names : List Name) (d : ℕ)
    (names_left : List Name) : Type 0 where
  pub behind : List ℕ
  pub above : AreAbove fs start d behind
  pub directory : is_directory fs d ≡ true
  pub walked : AreWalked names_left
  pub same : walk fs start [] names ≡ walk fs d behind names_left

-- ---- how far below the start

below : (fs : Files) (start d : ℕ) (behind : List ℕ) (q : Path) → IsFiles fs
    → AreAbove fs start d behind → path_of fs d ≡ Some q
    → (p : Path) × (path_of fs start ≡ Some p) × (length q ≡ length p + length behind)
below fs start d [] q are is path = (q, ap (path_of fs) (sym is) ∙ path, omega arith)
below fs start d (above ∷ behind) q are chain path =
    let name = chain.1.0 in
    let up = child_parent fs above d name chain.1.1 in
    let own = child_path fs above d name up.0 are up.1 chain.1.1 in
    let rest = below fs start above behind up.0 are chain.3 up.1 in
    let size = ap (λ (p : Path). length p) (some_path q (up.0 ++ name ∷ []) (sym path ∙ own)) in
    let longer = length-append up.0 (name ∷ []) in
    let far = rest.2 in
    (rest.0, rest.1, omega (arith, size, longer, far))

-- a child of where the walk is isn't where it began
child_apart : (fs : Files) (start d k : ℕ) (behind : List ℕ) (name : Name) → IsFiles fs
    → AreAbove fs start d behind → child fs d name ≡ Some k → k ≢ start
child_apart fs start d k behind name are chain there e =
    let up = child_parent fs d k name there in
    let own = child_path fs d k name up.0 are up.1 there in
    let from = below fs start d behind up.0 are chain up.1 in
    let same = some_path from.0 (up.0 ++ name ∷ [])
    (sym from.1 ∙ ap (path_of fs) (sym e) ∙ own) in
    let size = ap (λ (p : Path). length p) same in
    let longer = length-append up.0 (name ∷ []) in
    let far = from.2 in
    omega (arith, size, longer, far)

-- what is no empty list, by a test that says so
pub not_last : (names : List Name) → (names ≡ [] → IsTrue false) → names ≢ []
not_last names h e = absurd (let t : false ≡ true = h e in cc)

-- ---- a step further

module _ (fs : Files) (start : ℕ) (names : List Name) (d : ℕ) (names_left : List Name) (name : Name)
    (after : List Name) (l : Leads fs start names d names_left) (e : names_left ≡ name
    ∷ after) where
  walked : AreWalked (name ∷ after)
  walked = subst AreWalked e l.walked

  here : walk fs start [] names ≡ walk fs d l.behind (name ∷ after)
  here = l.same ∙ ap (walk fs d l.behind) e

  goes_on : (behind : List ℕ) → is_back name ≡ false
      → walk fs d behind (name ∷ after)
      ≡ onward fs d name after (λ k. walk fs k (d ∷ behind) after)
  goes_on behind other = rw other refl

  -- another name, which has to be a directory
  onward_is : (xs : List Name) (go : ℕ → Result WalkEnd Halt) → xs ≢ []
      → onward fs d name xs go ≡ (directory_entered fs (child fs d name) >>= go)
  onward_is [] go more = absurd (more refl)
  onward_is (x ∷ xs) go more = refl

  entering : is_back name ≡ false → after ≢ []
      → walk fs start [] names
      ≡ (directory_entered fs (child fs d name) >>= λ k. walk fs k (d ∷ l.behind) after)
  entering other more =
      here ∙ goes_on l.behind other
      ∙ onward_is after (λ k. walk fs k (d ∷ l.behind) after) more

  -- into a directory
  pub goes_in : is_back name ≡ false → after ≢ [] → (k : ℕ) → IsFiles fs
      → directory_entered fs (child fs d name) ≡ Ok k → child fs d name ≡ Some k
      → is_directory fs k ≡ true → Leads fs start names k after
  goes_in other more k are is there directory = record {
    behind = d ∷ l.behind;
    above = (
      child_apart fs start d k l.behind name are l.above there,
      (name, there),
      l.directory,
      l.above,
    );
    directory = directory;
    walked = walked.1;
    same = entering other more
        ∙ ap (λ (r : Result ℕ Halt). r >>= λ j. walk fs j (d ∷ l.behind) after) is;
  }
