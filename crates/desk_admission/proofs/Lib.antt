mod HostTexts
mod Prefixed
