-- What a change of the directory asks for.
use Rattle.layout.specs.Table.{Ask, create, shorten, rename, remove}
use Rattle.store.specs.declared.change.Change.{Change}
use Rattle.store.specs.declared.change.Change.TheVariants.{Create, Rename, Remove, Shorten}

abbrev pub asks : Change → Ask
asks (Create name) = create name
asks (Rename name new) = rename name new
asks (Remove name) = remove name
asks (Shorten name length) = shorten name length
