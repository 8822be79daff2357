mod Answers
mod LongTexts
mod Running
mod Sharing
mod Telling
