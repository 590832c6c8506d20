-- Texts with their lengths before them.
use Rattle.std.proofs.Common.{◌≡◌, ℕ, ◌+◌, ◌<◌, List, [], ◌∷◌, ◌++◌, length, get_or}
use Rattle.std.proofs.Common.{take, sym, ap, ◌∙◌, append_assoc}
use Rattle.std.proofs.lemmas.List.{take_more, append-nil}
use Rattle.std.proofs.lemmas.Grind.{flat_map-append}
use Rattle.std.specs.List.{flat_map}
use Rattle.wasi_abi.specs.rules.Layouts.{u16_bytes}
use Rattle.disk_layout.specs.rules.Places.{short_text_bytes}

-- one text more
pub texts_more : (texts : List (List ℕ)) (i : ℕ) (d : List ℕ) → i < length texts
    → flat_map short_text_bytes (take (i + 1) texts) ≡ flat_map short_text_bytes (take i texts)
    ++ short_text_bytes (get_or texts i d)
texts_more texts i d lt =
    ap (λ l. flat_map short_text_bytes l) (take_more texts i d lt)
    ∙ flat_map-append short_text_bytes (take i texts) (get_or texts i d ∷ [])
    ∙ ap (λ l. flat_map short_text_bytes (take i texts)
    ++ l) (append-nil (short_text_bytes (get_or texts i d)))

-- one text more after the bytes of those before it
pub texts_pushed : (texts : List (List ℕ)) (i : ℕ) (d before head bytes mid new : List ℕ)
    → i < length texts → bytes ≡ before ++ (head ++ flat_map short_text_bytes (take i texts))
    → mid ≡ bytes ++ u16_bytes (length (get_or texts i d)) → new ≡ mid ++ get_or texts i d
    → new ≡ before ++ (head ++ flat_map short_text_bytes (take (i + 1) texts))
texts_pushed texts i d before head bytes mid new lt bytes-is mid-is new-is =
    let t = get_or texts i d in
    let so_far = flat_map short_text_bytes (take i texts) in
    new-is ∙ ap (λ l. l ++ t) mid-is ∙ append_assoc bytes (u16_bytes (length t)) t
    ∙ ap (λ l. l ++ short_text_bytes t) bytes-is
    ∙ append_assoc before (head ++ so_far) (short_text_bytes t)
    ∙ ap (λ l. before ++ l) (append_assoc head so_far (short_text_bytes t))
    ∙ ap (λ l. before ++ (head ++ l)) (sym (texts_more texts i d lt))
