-- What the program returns, as the value that it is.
use Rattle.postgres_texts.specs.declared.settings.SettingValue.{SettingValue}
use Rattle.postgres_texts.specs.declared.settings.SettingValue.TheVariants.{Kept, Unsupported, Invalid}
use Rattle.postgres_texts.specs.Settings.{TheValue, kept, unsupported, invalid}

abbrev pub viewed : SettingValue → TheValue
viewed (Kept text) = kept text.now
viewed Unsupported = unsupported
viewed Invalid = invalid
