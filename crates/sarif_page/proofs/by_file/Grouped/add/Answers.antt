use Rattle.std.proofs.Common.{rules, ◌≡◌, ◌++◌, ◌∷◌, [], ℕ, List, true, false, Some, bytes_eq, map, ap, sym, ◌∙◌, length, take, ◌<◌, ◌≤◌, arith, if◌then◌else◌}
use Rattle.std.specs.Option.{option_map, is_some}
use Rattle.std.proofs.lemmas.List.{length-map, map-append}
use Rattle.sarif_page.specs.Internal.ByFile.{group_at, group_of}
use Rattle.sarif_page.specs.HtmlRows.{file_of, files_of}
use Rattle.sarif_page.proofs.FilesMore.{found_files, full_files, full_group, new_files, new_group, grown, none_grown}
use Rattle.sarif_page.proofs.by_file.Grouped.add.Goals as goal

pub returns-then-branch : goal.returns-then-branch
returns-then-branch c = λ before h.
    let f = c.args.finding.now in
    let most = c.args.most in
    let file : c.file_of-file.result.now ≡ file_of f = search rules in
    let found : is_some (group_of most before (file_of f)) ≡ true =
    ap is_some (sym (h.1 (file_of f))) ∙ ap (λ q. is_some (group_at c.args.self.now.groups q)) (sym file)
    ∙ sym c.in_ok-add_to_group.ensures.found ∙ c.if-branch.true in
    let same = found_files most before f found in (
      h.0 ∙ sym same,
      λ q.
          c.in_ok-add_to_group.ensures.groups q
          ∙ ap (λ t. if bytes_eq t q then option_map (λ group. group ++ f ∷ []) (group_at c.args.self.now.groups q) else group_at c.args.self.now.groups q) file
          ∙ ap (λ o. if bytes_eq (file_of f) q then option_map (λ group. group ++ f ∷ []) o else o) (h.1 q)
          ∙ grown most before f q same,
    )

pub returns-in_ok-add_group : goal.returns-in_ok-add_group
returns-in_ok-add_group c = λ before h.
    let f = c.args.finding.now in
    let most = c.args.most in
    let file : c.file_of-file.result.now ≡ file_of f = search rules in
    let at = λ (q : List ℕ). group_at c.args.self.now.groups q in
    let unseen : is_some (at c.file_of-file.result.now) ≡ false = sym c.in_ok-add_to_group.ensures.found ∙ c.if-branch.false in
    let none : is_some (group_of most before (file_of f)) ≡ false =
    ap is_some (sym (h.1 (file_of f))) ∙ ap (λ q. is_some (at q)) (sym file) ∙ unseen in
    let fits : length (take most (files_of before)) < most =
    omega (arith, ap length h.0, length-map c.args.self.now.files.items (λ t. t.now)) in
    let files : map (λ t. t.now) c.push.new.self.items ≡ map (λ t. t.now) c.args.self.now.files.items ++ file_of f ∷ [] =
    ap (map (λ t. t.now)) c.in_ok-push.ensures.items ∙ map-append (λ t. t.now) c.args.self.now.files.items (c.file_of-file.result ∷ [])
    ∙ ap (λ t. map (λ t. t.now) c.args.self.now.files.items ++ t ∷ []) file in (
      files ∙ ap (λ l. l ++ file_of f ∷ []) h.0 ∙ sym (new_files most before f none fits),
      λ q.
          c.in_ok-add_group.ensures q
          ∙ ap (λ t. if bytes_eq t q then Some (f ∷ []) else group_at c.add_to_group.new.groups q) file
          ∙ ap (λ o. if bytes_eq (file_of f) q then Some (f ∷ []) else o)
          (c.in_ok-add_to_group.ensures.groups q ∙ none_grown c.file_of-file.result.now q f at unseen ∙ h.1 q)
          ∙ new_group most before f none fits q,
    )

pub returns-else-len-most : goal.returns-else-len-most
returns-else-len-most c = λ before h.
    let f = c.args.finding.now in
    let most = c.args.most in
    let file : c.file_of-file.result.now ≡ file_of f = search rules in
    let at = λ (q : List ℕ). group_at c.args.self.now.groups q in
    let unseen : is_some (at c.file_of-file.result.now) ≡ false = sym c.in_ok-add_to_group.ensures.found ∙ c.if-branch.false in
    let none : is_some (group_of most before (file_of f)) ≡ false =
    ap is_some (sym (h.1 (file_of f))) ∙ ap (λ q. is_some (at q)) (sym file) ∙ unseen in
    let full : most ≤ length (take most (files_of before)) =
    omega (arith, ap length h.0, length-map c.args.self.now.files.items (λ t. t.now)) in
    let same = full_files most before f full in (
      h.0 ∙ sym same,
      λ q.
          c.in_ok-add_to_group.ensures.groups q ∙ none_grown c.file_of-file.result.now q f at unseen ∙ h.1 q ∙ full_group most before f q none same,
    )
