use Rattle.std.proofs.Common.{◌≡◌, ℕ, ◌+◌, ◌-◌, ◌<◌, List, [], ◌∷◌, ◌++◌, length, set, take, drop, sym, ap, ◌∙◌, add-one}
use Rattle.std.proofs.lemmas.List.{set_split, take_rest, append_assoc}

-- the front of a list, a new item and the rest are the list with that item changed
pub set_rejoined : {X : Type 0} (xs : List X) (at : ℕ) (y : X) → at < length xs → take at xs ++ y ∷ [] ++ take (length xs - (at + 1)) (drop (at + 1) xs) ≡ set xs at y
set_rejoined xs at y h =
    ap (λ zs. take at xs ++ y ∷ [] ++ zs) (take_rest xs (at + 1)) ∙ append_assoc (take at xs) (y ∷ []) (drop (at + 1) xs) ∙ ap (λ n. take at xs ++ y ∷ drop n xs) (add-one at) ∙ sym (set_split xs at y h)
