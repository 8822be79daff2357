mod LongTexts
