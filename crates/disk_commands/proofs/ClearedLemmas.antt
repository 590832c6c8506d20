-- What was made is removed, or named, one after another.
use Rattle.std.proofs.Common.{◌≡◌, ◌∙◌, ap, ap₂, inl, inr, refl, subst, sym, ℕ, List, [], ◌∷◌, ◌++◌}
use Rattle.std.proofs.Common.{append_assoc, append-nil, map, reverse, Option, Some}
use Rattle.std.specs.List.{concat}
use Rattle.std.proofs.lemmas.List.{map-append, reverse-append}
use Rattle.std.proofs.lemmas.List.Elements.{All-append, All-cons, All-nil, All-pop}
use Rattle.sector_disk.specs.declared.open_fault.OpenFault.{OpenFault}
use Rattle.command_words.specs.rules.Printers.{PrinterState, SaysText}
use Rattle.command_words.specs.declared.status.Status.{Status}
use Rattle.command_words.proofs.LineLemmas.Printed.{prints_both, prints_nothing}
use Rattle.disk_commands.specs.declared.on_disk.clearing.MadeNode.{MadeNode}
use Rattle.disk_commands.specs.MadeNodes.{HaveMade, made_path}
use Rattle.disk_commands.specs.rules.ClearedTrees.{Cleared, ClearsAll, IsRemovedAgain}
use Rattle.disk_commands.specs.rules.ClearedTrees.{clearing_text}
use Rattle.disk_commands.specs.rules.ClearedTrees.{cleared}
use Rattle.disk_commands.specs.rules.NewTrees.{HasMade, KnownTrees}

pub says_nothing : (old : PrinterState) (status : Status) → SaysText [] status old status old
says_nothing old status = inl (refl, prints_nothing old old refl)

-- two texts, one after the other
pub says_both : (a b c : PrinterState) (s t u : Status) (front rest : List ℕ)
    → SaysText front s a t b → SaysText rest t b u c → SaysText (front ++ rest) s a u c
says_both a b c s t u front rest (inl h) (inl k) =
    inl (k.0 ∙ h.0, prints_both a b c front rest h.1 k.1)
says_both a b c s t u front rest (inr h) (inl k) = inr (k.0 ∙ h.0, k.1.1 ∙ h.1)
says_both a b c s t u front rest (inl h) (inr k) = inr k
says_both a b c s t u front rest (inr h) (inr k) = inr k

joined : (xs ys : List (List ℕ)) → concat (xs ++ ys) ≡ concat xs ++ concat ys
joined [] ys = refl
joined (x ∷ xs) ys =
    ap (λ l. x ++ l) (joined xs ys) ∙ sym (append_assoc x (concat xs) (concat ys))

abbrev said_of : Cleared → List ℕ
said_of one = clearing_text one.path one.stays

all_said : (xs ys : List Cleared)
    → concat (map said_of (xs ++ ys)) ≡ concat (map said_of xs) ++ concat (map said_of ys)
all_said xs ys =
    ap concat (map-append said_of xs ys) ∙ joined (map said_of xs) (map said_of ys)

module _ (trees : KnownTrees) where
  pub none_cleared : (old : PrinterState) (status : Status)
      → ClearsAll trees [] old status status old
  none_cleared old status = record {
    ended = [];
    whole = refl;
    each = All-nil (λ (one : Cleared). IsRemovedAgain trees one.path one.stays);
    says = says_nothing old status;
  }

  pub one_cleared : (path : List ℕ) (stays : Option OpenFault) (old new : PrinterState)
      (status answered : Status) → IsRemovedAgain trees path stays
      → SaysText (clearing_text path stays) status old answered new
      → ClearsAll trees (path ∷ []) old status answered new
  one_cleared path stays old new status answered is says = record {
    ended = cleared path stays ∷ [];
    whole = refl;
    each = All-cons (λ (one : Cleared). IsRemovedAgain trees one.path one.stays)
        (cleared path stays) [] is (All-nil (λ (one : Cleared). IsRemovedAgain trees one.path one.stays));
    says = subst (λ l. SaysText l status old answered new)
        (sym (append-nil (clearing_text path stays))) says;
  }

  pub more_cleared : (ps qs : List (List ℕ)) (a b c : PrinterState) (s t u : Status)
      → ClearsAll trees ps a s t b → ClearsAll trees qs b t u c
      → ClearsAll trees (ps ++ qs) a s u c
  more_cleared ps qs a b c s t u first then = record {
    ended = first.ended ++ then.ended;
    whole = map-append (λ (one : Cleared). one.path) first.ended then.ended
        ∙ ap₂ (λ (xs ys : List (List ℕ)). xs ++ ys) first.whole then.whole;
    each = All-append (λ (one : Cleared). IsRemovedAgain trees one.path one.stays) first.ended
        then.ended first.each then.each;
    says = subst (λ l. SaysText l s a u c) (sym (all_said first.ended then.ended))
        (says_both a b c s t u (concat (map said_of first.ended))
        (concat (map said_of then.ended)) first.says then.says);
  }

  -- Of all that was made some is left, and the rest was removed, or is named.
  pub record HasCleared (all left : List MadeNode) (old : PrinterState) (status now : Status)
      (new : PrinterState) : Type 0 where
    pub gone : List MadeNode
    pub parts : all ≡ left ++ gone
    pub clears : ClearsAll trees (reverse (map made_path gone)) old status now new
    pub have : HaveMade trees left

  pub begins_clearing : (all : List MadeNode) (old : PrinterState) (status : Status)
      → HaveMade trees all → HasCleared all all old status status old
  begins_clearing all old status have = record {
    gone = [];
    parts = sym (append-nil all);
    clears = none_cleared old status;
    have = have;
  }

  pub have_rest : (left rest : List MadeNode) (node : MadeNode) → left ≡ rest ++ node ∷ []
      → HaveMade trees left → HaveMade trees rest
  have_rest left rest node is have =
      (All-pop (λ (one : MadeNode). HasMade trees (made_path one) one.is_folder) left rest
      (Some node) is have).0

  order : (node : MadeNode) (gone : List MadeNode)
      → reverse (map made_path (node ∷ gone)) ≡ reverse (map made_path gone) ++ made_path node ∷ []
  order node gone = reverse-append (made_path node ∷ []) (map made_path gone)

  pub goes_on_clearing : (all left rest : List MadeNode) (node : MadeNode) (path : List ℕ)
      (a b c : PrinterState) (s t u : Status) → HasCleared all left a s t b
      → left ≡ rest ++ node ∷ [] → path ≡ made_path node → HaveMade trees rest
      → ClearsAll trees (path ∷ []) b t u c → HasCleared all rest a s u c
  goes_on_clearing all left rest node path a b c s t u before is same have then = record {
    gone = node ∷ before.gone;
    parts = before.parts ∙ ap (λ (l : List MadeNode). l ++ before.gone) is
        ∙ append_assoc rest (node ∷ []) before.gone;
    clears = subst (λ ps. ClearsAll trees ps a s u c) (sym (order node before.gone))
        (more_cleared (reverse (map made_path before.gone)) (made_path node ∷ []) a b c s t u
        before.clears (subst (λ p. ClearsAll trees (p ∷ []) b t u c) same then));
    have = have;
  }

  pub ends_clearing : (all left : List MadeNode) (old new : PrinterState) (status now : Status)
      → HasCleared all left old status now new → left ≡ []
      → ClearsAll trees (reverse (map made_path all)) old status now new
  ends_clearing all left old new status now done none =
      subst (λ (l : List MadeNode). ClearsAll trees (reverse (map made_path l)) old status now new)
      (sym (done.parts ∙ ap (λ (l : List MadeNode). l ++ done.gone) none)) done.clears
